-- Puts that go through a buffer.
use Rattle.std.proofs.Common.{◌≡◌, ◌≢◌, ℕ, ◌+◌, ◌-◌, ◌%◌, ◌≤◌, ◌<◌, Bool, true, false, List, [], ◌∷◌, ◌++◌, length, take, drop, replicate, arith, sym, ap, subst, refl, ◌∙◌, Option, Some, None, append_assoc, length-append, add-zero, zero-add}
use Rattle.std.proofs.Math.Nat.{add-mod, mod-eq_of_lt, mod_self, zero-mod}
use Rattle.std.proofs.lemmas.Grind.{flat_map-append}
use Rattle.std.proofs.lemmas.List.{append-nil, length-take, length-drop, take_all, take_at, drop_at, take-append-drop, drop-append-le, drop-drop, take-replicate, replicate-append-replicate}
use Rattle.world_io.specs.Outside.{SinkState}
use Rattle.world_io.specs.Puts.{PutSays, Fits}
use Rattle.world_io.specs.Logs.{Piece, IsOffered, bytes_of, AreTaken}
use Rattle.world_io.specs.Texts.{IsFront, AreOf, PutsText, IsPutSurely}
use Rattle.world_io.specs.declared.sink.Put.TheVariants.{Took, Failed}
use Rattle.world_io.proofs.Sinks.{piece, none-SinkLog, failed-SinkLog, append-SinkLog, log-AreTaken, sure-PutsText}
use Rattle.elf_writer.specs.Streams.{AreRests, AreBuffered, AreFull, AreWholeBuffers, Came, Stopped, PutsRests, Gives, PutsBuffered}

-- ---- what is offered

-- the put that failed, where there is one, offered some bytes
abbrev HasSome : Option (List ℕ) → Type 0
HasSome None = Unit {0}
HasSome (Some last) = last ≢ []

-- only the place in a buffer counts
AreBuffered-same : (size at place : ℕ) (text : List ℕ) (ps : List Piece) (fault : Option (List ℕ)) → at % size ≡ place % size
    → AreBuffered size at text ps fault → AreBuffered size place text ps fault
AreBuffered-same size at place text [] None e h = tt
AreBuffered-same size at place text [] (Some last) e h = h ∙ ap (λ n. take (size - n) text) e
AreBuffered-same size at place text (p ∷ ps) fault e h =
    let next : (at + p.taken) % size ≡ (place + p.taken) % size =
    add-mod at p.taken size ∙ ap (λ n. (n + p.taken % size) % size) e ∙ sym (add-mod place p.taken size) in
    (h.0 ∙ ap (λ n. take (size - n) text) e, AreBuffered-same size (at + p.taken) (place + p.taken) (drop p.taken text) ps fault next h.1)

-- some puts and then others
AreBuffered-append : (size at : ℕ) (text : List ℕ) (ps qs : List Piece) (fault : Option (List ℕ)) → AreTaken ps → AreBuffered size at text ps None
    → AreBuffered size (at + length (bytes_of ps)) (drop (length (bytes_of ps)) text) qs fault → AreBuffered size at text (ps ++ qs) fault
AreBuffered-append size at text [] qs fault taken h g = subst (λ n. AreBuffered size n text qs fault) (add-zero at) g
AreBuffered-append size at text (p ∷ ps) qs fault taken h g =
    let long : length (take p.taken p.offered) ≡ p.taken = omega (arith, length-take {A = ℕ}, taken.1) in
    let all : length (bytes_of (p ∷ ps)) ≡ p.taken + length (bytes_of ps) = length-append (take p.taken p.offered) (bytes_of ps) ∙ ap (λ n. n + length (bytes_of ps)) long in
    let place : at + length (bytes_of (p ∷ ps)) ≡ at + p.taken + length (bytes_of ps) = omega (arith, all) in
    let text_behind : drop (length (bytes_of (p ∷ ps))) text ≡ drop (length (bytes_of ps)) (drop p.taken text) =
    ap (λ n. drop n text) all ∙ sym (drop-drop (length (bytes_of ps)) p.taken text) in
    let next : AreBuffered size (at + p.taken + length (bytes_of ps)) (drop (length (bytes_of ps)) (drop p.taken text)) qs fault =
    subst (λ n. AreBuffered size n (drop (length (bytes_of ps)) (drop p.taken text)) qs fault) place
    (subst (λ t. AreBuffered size (at + length (bytes_of (p ∷ ps))) t qs fault) text_behind g) in
    (h.0, AreBuffered-append size (at + p.taken) (drop p.taken text) ps qs fault taken.2 h.1 next)

-- what is left of a buffer, where the rest of the text, of at least one byte, fills it
full_left : (size at : ℕ) (text more : List ℕ) → 0 < length text → at + length text ≡ size → take (size - at % size) (text ++ more) ≡ text
full_left size at text more some e =
    let place : size - at % size ≡ length text = (let small : at < size = omega arith in ap (λ n. size - n) (mod-eq_of_lt small) ∙ omega arith) in
    ap (λ n. take n (text ++ more)) place ∙ take_at text more (length text) refl

some_length : (bytes : List ℕ) → bytes ≢ [] → 0 < length bytes
some_length [] some = absurd (some refl)
some_length (x ∷ bytes) some = omega arith

-- the rests of a text that fills a buffer, however it goes on
full-AreBuffered : (size at : ℕ) (text more : List ℕ) (ps : List Piece) (fault : Option (List ℕ)) → AreTaken ps → HasSome fault → AreRests text ps fault
    → at + length text ≡ size → AreBuffered size at (text ++ more) ps fault
full-AreBuffered size at text more [] None taken some h e = tt
full-AreBuffered size at text more [] (Some last) taken some h e =
    let long : 0 < length text = subst (λ t. 0 < length t) h (some_length last some) in
    h ∙ sym (full_left size at text more long e)
full-AreBuffered size at text more (p ∷ ps) fault taken some h e =
    let offered : length p.offered ≡ length text = ap length h.0 in
    let long : p.taken ≤ length text = omega (arith, taken.1) in
    let here : p.offered ≡ take (size - at % size) (text ++ more) = h.0 ∙ sym (full_left size at text more (omega (arith, taken.0)) e) in
    let left : at + p.taken + length (drop p.taken text) ≡ size = omega (arith, length-drop p.taken text) in (
      here,
      subst (λ t. AreBuffered size (at + p.taken) t ps fault) (sym (drop-append-le p.taken text more long))
          (full-AreBuffered size (at + p.taken) (drop p.taken text) more ps fault taken.2 some h.1 left),
    )

-- what is left of a buffer, where the rest of the text, of at least one byte, ends within it
last_left : (size at : ℕ) (text : List ℕ) → 0 < length text → at + length text ≤ size → take (size - at % size) text ≡ text
last_left size at text some few =
    let place : size - at % size ≡ size - at = (let small : at < size = omega arith in ap (λ n. size - n) (mod-eq_of_lt small)) in
    ap (λ n. take n text) place ∙ take_all (size - at) text (omega (arith, few))

-- the rests of a text that ends within a buffer
last-AreBuffered : (size at : ℕ) (text : List ℕ) (ps : List Piece) (fault : Option (List ℕ)) → AreTaken ps → HasSome fault → AreRests text ps fault
    → at + length text ≤ size → AreBuffered size at text ps fault
last-AreBuffered size at text [] None taken some h few = tt
last-AreBuffered size at text [] (Some last) taken some h few =
    let long : 0 < length text = subst (λ t. 0 < length t) h (some_length last some) in
    h ∙ sym (last_left size at text long few)
last-AreBuffered size at text (p ∷ ps) fault taken some h few =
    let offered : length p.offered ≡ length text = ap length h.0 in
    let here : p.offered ≡ take (size - at % size) text = h.0 ∙ sym (last_left size at text (omega (arith, taken.0, taken.1)) few) in
    let left : at + p.taken + length (drop p.taken text) ≤ size = omega (arith, length-drop p.taken text, taken.1) in
    (here, last-AreBuffered size (at + p.taken) (drop p.taken text) ps fault taken.2 some h.1 left)

-- ---- the rests of a text

-- a text of which some puts were made: whatever is put of the rest, is put of the text
abbrev pub RestsLog : SinkState → List ℕ → List ℕ → SinkState → Type 0
RestsLog old text rest now = (whole : Bool) (end : SinkState) → PutsRests now rest whole end → PutsRests old text whole end

-- nothing of it has been put yet
pub none-RestsLog : (a : SinkState) (text : List ℕ) → RestsLog a text text a
none-RestsLog a text = λ whole end puts. puts

-- a put before others
more-PutsRests : (a b c : SinkState) (rest : List ℕ) (k : ℕ) (whole : Bool) → IsOffered a (rest, Took k) b → PutsRests b (drop k rest) whole c
    → PutsRests a rest whole c
more-PutsRests a b c rest k true one puts = record {
  pieces = piece rest k ∷ puts.pieces;
  log = (b, one, puts.log);
  offers = (refl, puts.offers);
  whole = append_assoc (take k rest) (bytes_of puts.pieces) [] ∙ ap (λ w. take k rest ++ w) puts.whole ∙ take-append-drop k rest;
}
more-PutsRests a b c rest k false one puts = record {
  pieces = piece rest k ∷ puts.pieces;
  last = puts.last;
  some = puts.some;
  log = (b, one, puts.log);
  offers = (refl, puts.offers);
}

-- a put took some of the rest
pub put-RestsLog : (a b c : SinkState) (text rest : List ℕ) (k : ℕ) → RestsLog a text rest b
    → PutSays b rest (Took k) c → (Fits b.room (length rest) → Took k ≡ Took (length rest))
    → RestsLog a text (take (length rest - k) (drop k rest)) c
put-RestsLog a b c text rest k log says sure = λ whole end puts.
    let left : take (length rest - k) (drop k rest) ≡ drop k rest = take_all (length rest - k) (drop k rest) (omega (arith, length-drop {A = ℕ})) in
    log whole end (more-PutsRests b c end rest k whole (record { says = says; sure = sure }) (subst (λ t. PutsRests c t whole end) left puts))

-- nothing to put
none-PutsRests : (a : SinkState) (rest : List ℕ) → length rest ≡ 0 → PutsRests a rest true a
none-PutsRests a [] e = record { pieces = []; log = none-SinkLog a; offers = tt; whole = refl }
none-PutsRests a (x ∷ rest) e = absurd (omega arith)

-- a text of which nothing is left is put whole
pub whole-PutsRests : (a b : SinkState) (text rest : List ℕ) → RestsLog a text rest b → length rest ≡ 0 → PutsRests a text true b
whole-PutsRests a b text rest log e = log true b (none-PutsRests b rest e)

-- a put failed before the end of a text
pub failed-PutsRests : (a b c : SinkState) (text rest : List ℕ) → RestsLog a text rest b → 0 < length rest
    → PutSays b rest Failed c → (Fits b.room (length rest) → Failed ≡ Took (length rest)) → PutsRests a text false c
failed-PutsRests a b c text rest log some says sure = log false c (record {
  pieces = [];
  last = rest;
  some = λ e. (let none : length rest ≡ 0 = ap length e in omega arith);
  log = failed-SinkLog b c rest says sure;
  offers = refl;
})

-- ---- bytes through a buffer

-- bytes that only join those held back
pub held-Gives : (size : ℕ) (held bytes : List ℕ) (a : SinkState) → Gives size held a bytes true (held ++ bytes) a
held-Gives size held bytes a = record {
  pieces = [];
  log = none-SinkLog a;
  offers = (λ more. tt, zero-mod size);
  whole = refl;
}

full_length : (size : ℕ) (ps : List Piece) (held : List ℕ) → length held ≡ size → bytes_of ps ++ [] ≡ held → length (bytes_of ps) % size ≡ 0
full_length size ps held full whole =
    let long : length (bytes_of ps) ≡ size = ap length (sym (append-nil (bytes_of ps)) ∙ whole) ∙ full in
    ap (λ n. n % size) long ∙ mod_self size

-- a full buffer was put
pub full-Gives : (size : ℕ) (held : List ℕ) (a b : SinkState) (whole : Bool) → length held ≡ size → PutsRests a held whole b → Gives size held a [] whole [] b
full-Gives size held a b true full put =
    let P : List ℕ → Type 0 = λ text. Came (AreWholeBuffers size text) a text [] b in
    let taken = log-AreTaken a b put.pieces None put.log in
    subst P (sym (append-nil held)) (record {
      pieces = put.pieces;
      log = put.log;
      offers = (λ more. full-AreBuffered size 0 held more put.pieces None taken tt put.offers (omega (arith, full)), full_length size put.pieces held full put.whole);
      whole = put.whole;
    })
full-Gives size held a b false full put =
    let P : List ℕ → Type 0 = λ text. Stopped (AreFull size text) a b in
    let taken = log-AreTaken a b put.pieces (Some put.last) put.log in
    subst P (sym (append-nil held)) (record {
      pieces = put.pieces;
      last = put.last;
      some = put.some;
      log = put.log;
      offers = λ more. full-AreBuffered size 0 held more put.pieces (Some put.last) taken put.some put.offers (omega (arith, full));
    })

-- what is left behind the first puts
left_behind : (held first second middle : List ℕ) (ps : List Piece) → bytes_of ps ++ middle ≡ held ++ first
    → bytes_of ps ++ (middle ++ second) ≡ held ++ (first ++ second)
left_behind held first second middle ps whole =
    sym (append_assoc (bytes_of ps) middle second) ∙ ap (λ w. w ++ second) whole ∙ append_assoc held first second

then-AreFull : (size : ℕ) (held first second middle : List ℕ) (ps qs : List Piece) (fault : Option (List ℕ)) → AreTaken ps → AreWholeBuffers size (held ++ first) ps None
    → bytes_of ps ++ middle ≡ held ++ first → AreFull size (middle ++ second) qs fault → AreFull size (held ++ (first ++ second)) (ps ++ qs) fault
then-AreFull size held first second middle ps qs fault taken one whole two = λ more.
    let before : (held ++ first) ++ (second ++ more) ≡ (held ++ (first ++ second)) ++ more =
    sym (append_assoc (held ++ first) second more) ∙ ap (λ w. w ++ more) (append_assoc held first second) in
    let all : bytes_of ps ++ ((middle ++ second) ++ more) ≡ (held ++ (first ++ second)) ++ more =
    sym (append_assoc (bytes_of ps) (middle ++ second) more) ∙ ap (λ w. w ++ more) (left_behind held first second middle ps whole) in
    let left : (middle ++ second) ++ more ≡ drop (length (bytes_of ps)) ((held ++ (first ++ second)) ++ more) =
    sym (drop_at (bytes_of ps) ((middle ++ second) ++ more) (length (bytes_of ps)) refl) ∙ ap (λ w. drop (length (bytes_of ps)) w) all in
    let place : 0 % size ≡ (0 + length (bytes_of ps)) % size = zero-mod size ∙ sym one.1 ∙ ap (λ n. n % size) (sym (zero-add (length (bytes_of ps)))) in
    let later : AreBuffered size (0 + length (bytes_of ps)) ((middle ++ second) ++ more) qs fault =
    AreBuffered-same size 0 (0 + length (bytes_of ps)) ((middle ++ second) ++ more) qs fault place (two more) in
    AreBuffered-append size 0 ((held ++ (first ++ second)) ++ more) ps qs fault taken
    (subst (λ t. AreBuffered size 0 t ps None) before (one.0 (second ++ more)))
    (subst (λ t. AreBuffered size (0 + length (bytes_of ps)) t qs fault) left later)

then_whole : (held first second middle last : List ℕ) (ps qs : List Piece) → bytes_of ps ++ middle ≡ held ++ first
    → bytes_of qs ++ last ≡ middle ++ second → bytes_of (ps ++ qs) ++ last ≡ held ++ (first ++ second)
then_whole held first second middle last ps qs one two =
    ap (λ w. w ++ last) (flat_map-append (λ p. take p.taken p.offered) ps qs) ∙ append_assoc (bytes_of ps) (bytes_of qs) last
    ∙ ap (λ w. bytes_of ps ++ w) two ∙ left_behind held first second middle ps one

then_length : (size : ℕ) (ps qs : List Piece) → length (bytes_of ps) % size ≡ 0 → length (bytes_of qs) % size ≡ 0 → length (bytes_of (ps ++ qs)) % size ≡ 0
then_length size ps qs one two =
    let all : length (bytes_of (ps ++ qs)) ≡ length (bytes_of ps) + length (bytes_of qs) =
    ap length (flat_map-append (λ p. take p.taken p.offered) ps qs) ∙ length-append (bytes_of ps) (bytes_of qs) in
    ap (λ n. n % size) all ∙ add-mod (length (bytes_of ps)) (length (bytes_of qs)) size ∙ ap (λ n. (n + length (bytes_of qs) % size) % size) one
    ∙ ap (λ n. (0 + n) % size) two ∙ zero-mod size

-- bytes after bytes that were given
pub then-Gives : (size : ℕ) (held first second : List ℕ) (middle last : List ℕ) (a b c : SinkState) (whole : Bool)
    → Gives size held a first true middle b → Gives size middle b second whole last c → Gives size held a (first ++ second) whole last c
then-Gives size held first second middle last a b c true one two = record {
  pieces = one.pieces ++ two.pieces;
  log = append-SinkLog a b c one.pieces two.pieces None one.log two.log;
  offers = (
    then-AreFull size held first second middle one.pieces two.pieces None (log-AreTaken a b one.pieces None one.log) one.offers one.whole two.offers.0,
    then_length size one.pieces two.pieces one.offers.1 two.offers.1,
  );
  whole = then_whole held first second middle last one.pieces two.pieces one.whole two.whole;
}
then-Gives size held first second middle last a b c false one two = record {
  pieces = one.pieces ++ two.pieces;
  last = two.last;
  some = two.some;
  log = append-SinkLog a b c one.pieces two.pieces (Some two.last) one.log two.log;
  offers = then-AreFull size held first second middle one.pieces two.pieces (Some two.last) (log-AreTaken a b one.pieces None one.log) one.offers one.whole two.offers;
}

-- nothing after bytes that weren't all given
pub part-Gives : (size : ℕ) (held first second : List ℕ) (middle last : List ℕ) (a b : SinkState)
    → Gives size held a first false middle b → Gives size held a (first ++ second) false last b
part-Gives size held first second middle last a b one = record {
  pieces = one.pieces;
  last = one.last;
  some = one.some;
  log = one.log;
  offers = λ more. subst (λ t. AreBuffered size 0 t one.pieces (Some one.last))
      (sym (append_assoc (held ++ first) second more) ∙ ap (λ w. w ++ more) (append_assoc held first second)) (one.offers (second ++ more));
}

-- ---- a text that is given piece by piece

-- what was given so far, and the rest of the text
pub record Toward (size : ℕ) (held : List ℕ) (old : SinkState) (text rest now : List ℕ) (new : SinkState) : Type 0 where
  pub given : List ℕ
  pub so_far : Gives size held old given true now new
  pub whole : given ++ rest ≡ text

-- the whole text is still to be given
pub start-Toward : (size : ℕ) (held : List ℕ) (a : SinkState) (text : List ℕ) → Toward size held a text text held a
start-Toward size held a text = record {
  given = [];
  so_far = subst (λ now. Gives size held a [] true now a) (append-nil held) (held-Gives size held [] a);
  whole = refl;
}

-- the next bytes of the text were given
pub step-Toward : (size n : ℕ) (held : List ℕ) (a b c : SinkState) (text first rest middle last : List ℕ)
    → Toward size held a text (first ++ rest) middle b → n ≡ size → Gives n middle b first true last c → Toward size held a text rest last c
step-Toward size n held a b c text first rest middle last toward e gives = record {
  given = toward.given ++ first;
  so_far = then-Gives size held toward.given first middle last a b c true toward.so_far (subst (λ k. Gives k middle b first true last c) e gives);
  whole = append_assoc toward.given first rest ∙ toward.whole;
}

-- a put failed in the next bytes of the text
pub stop-Toward : (size n : ℕ) (held : List ℕ) (a b c : SinkState) (text first rest middle last : List ℕ)
    → Toward size held a text (first ++ rest) middle b → n ≡ size → Gives n middle b first false last c
    → (whole : Bool) → whole ≡ false → Gives size held a text whole last c
stop-Toward size n held a b c text first rest middle last toward e gives true failed = absurd cc
stop-Toward size n held a b c text first rest middle last toward e gives false failed =
    let all : (toward.given ++ first) ++ rest ≡ text = append_assoc toward.given first rest ∙ toward.whole in
    subst (λ t. Gives size held a t false last c) all
    (part-Gives size held (toward.given ++ first) rest last last a c
    (then-Gives size held toward.given first middle last a b c false toward.so_far (subst (λ k. Gives k middle b first false last c) e gives)))

-- the last bytes of the text were given, or not
pub last-Toward : (size n : ℕ) (held : List ℕ) (a b c : SinkState) (text first middle last : List ℕ) (whole : Bool)
    → Toward size held a text first middle b → n ≡ size → Gives n middle b first whole last c → Gives size held a text whole last c
last-Toward size n held a b c text first middle last whole toward e gives =
    subst (λ t. Gives size held a t whole last c) toward.whole
    (then-Gives size held toward.given first middle last a b c whole toward.so_far (subst (λ k. Gives k middle b first whole last c) e gives))

-- room was made, and so many of the next bytes were held back
pub hold-Toward : (size n k : ℕ) (held : List ℕ) (a b c : SinkState) (text rest middle now last : List ℕ)
    → Toward size held a text rest middle b → n ≡ size → Gives n middle b [] true now c → last ≡ now ++ take k rest
    → Toward size held a text (take (length rest - k) (drop k rest)) last c
hold-Toward size n k held a b c text rest middle now last toward e gives holds =
    let left : take (length rest - k) (drop k rest) ≡ drop k rest = take_all (length rest - k) (drop k rest) (omega (arith, length-drop {A = ℕ})) in
    let before : Toward size held a text (take k rest ++ drop k rest) now c =
    subst (λ r. Toward size held a text r now c) (sym (take-append-drop k rest)) (step-Toward size n held a b c text [] rest middle now toward e gives) in
    subst (λ r. Toward size held a text r last c) (sym left)
    (subst (λ l. Toward size held a text (drop k rest) l c) (sym holds)
    (step-Toward size size held a c c text (take k rest) (drop k rest) now (now ++ take k rest) before refl (held-Gives size now (take k rest) c)))

-- the whole text was given
pub end-Toward : (size : ℕ) (held : List ℕ) (a b : SinkState) (text now : List ℕ) → Toward size held a text [] now b → Gives size held a text true now b
end-Toward size held a b text now toward =
    subst (λ t. Gives size held a t true now b) (sym (append-nil toward.given) ∙ toward.whole) toward.so_far

-- ---- a text that is put whole through an empty buffer

finished : (size : ℕ) (text now : List ℕ) (ps qs : List Piece) (fault : Option (List ℕ)) → AreTaken ps → AreTaken qs → HasSome fault → length now ≤ size
    → AreWholeBuffers size text ps None → bytes_of ps ++ now ≡ text → AreRests now qs fault → AreBuffered size 0 text (ps ++ qs) fault
finished size text now ps qs fault taken later some few one whole two =
    let left : now ≡ drop (length (bytes_of ps)) text = sym (drop_at (bytes_of ps) now (length (bytes_of ps)) refl) ∙ ap (λ w. drop (length (bytes_of ps)) w) whole in
    let place : 0 % size ≡ (0 + length (bytes_of ps)) % size = zero-mod size ∙ sym one.1 ∙ ap (λ n. n % size) (sym (zero-add (length (bytes_of ps)))) in
    let last : AreBuffered size 0 now qs fault = last-AreBuffered size 0 now qs fault later some two (omega (arith, few)) in
    AreBuffered-append size 0 text ps qs fault taken
    (subst (λ t. AreBuffered size 0 t ps None) (append-nil text) (one.0 []))
    (subst (λ t. AreBuffered size (0 + length (bytes_of ps)) t qs fault) left (AreBuffered-same size 0 (0 + length (bytes_of ps)) now qs fault place last))

finished_whole : (text now last : List ℕ) (ps qs : List Piece) → bytes_of ps ++ now ≡ text → bytes_of qs ++ last ≡ now → bytes_of (ps ++ qs) ++ last ≡ text
finished_whole text now last ps qs one two =
    ap (λ w. w ++ last) (flat_map-append (λ p. take p.taken p.offered) ps qs) ∙ append_assoc (bytes_of ps) (bytes_of qs) last
    ∙ ap (λ w. bytes_of ps ++ w) two ∙ one

pub finish-PutsBuffered : (size : ℕ) (text now : List ℕ) (a b c : SinkState) (whole : Bool) → length now ≤ size
    → Gives size [] a text true now b → PutsRests b now whole c → PutsBuffered size a text whole c
finish-PutsBuffered size text now a b c true few one two = record {
  pieces = one.pieces ++ two.pieces;
  log = append-SinkLog a b c one.pieces two.pieces None one.log two.log;
  offers = finished size text now one.pieces two.pieces None (log-AreTaken a b one.pieces None one.log) (log-AreTaken b c two.pieces None two.log) tt few one.offers one.whole two.offers;
  whole = finished_whole text now [] one.pieces two.pieces one.whole two.whole;
}
finish-PutsBuffered size text now a b c false few one two = record {
  pieces = one.pieces ++ two.pieces;
  last = two.last;
  some = two.some;
  log = append-SinkLog a b c one.pieces two.pieces (Some two.last) one.log two.log;
  offers = finished size text now one.pieces two.pieces (Some two.last) (log-AreTaken a b one.pieces None one.log) (log-AreTaken b c two.pieces (Some two.last) two.log) two.some
      few one.offers one.whole two.offers;
}

pub stop-PutsBuffered : (size : ℕ) (text now : List ℕ) (a b : SinkState) → Gives size [] a text false now b → PutsBuffered size a text false b
stop-PutsBuffered size text now a b one = record {
  pieces = one.pieces;
  last = one.last;
  some = one.some;
  log = one.log;
  offers = subst (λ t. AreBuffered size 0 t one.pieces (Some one.last)) (append-nil text) (one.offers []);
}

-- some first bytes of a text, if there are any, are a front of it
taken_front : (bytes text : List ℕ) (n : ℕ) → bytes ≢ [] → bytes ≡ take n text → IsFront bytes text
taken_front bytes text n some e = (some, (drop n text, ap (λ w. w ++ drop n text) e ∙ take-append-drop n text))

some_taken : (p : Piece) → 0 < p.taken → p.taken ≤ length p.offered → p.offered ≢ []
some_taken p some few = λ e. (let none = ap length e in omega arith)

-- buffers are fronts of what is left of the text
whole_buffers-AreOf : (size at : ℕ) (text : List ℕ) (ps : List Piece) → AreTaken ps → AreBuffered size at text ps None → bytes_of ps ++ [] ≡ text → AreOf text ps None true
whole_buffers-AreOf size at text [] taken h whole = (sym whole, refl)
whole_buffers-AreOf size at text (p ∷ ps) taken h whole =
    let long : length (take p.taken p.offered) ≡ p.taken = omega (arith, length-take {A = ℕ}, taken.1) in
    let left : bytes_of ps ++ [] ≡ drop p.taken text =
    sym (drop_at (take p.taken p.offered) (bytes_of ps ++ []) p.taken long) ∙ ap (drop p.taken) (sym (append_assoc (take p.taken p.offered) (bytes_of ps) []) ∙ whole) in
    (taken_front p.offered text (size - at % size) (some_taken p taken.0 taken.1) h.0, whole_buffers-AreOf size (at + p.taken) (drop p.taken text) ps taken.2 h.1 left)

part_buffers-AreOf : (size at : ℕ) (text last : List ℕ) (ps : List Piece) → AreTaken ps → last ≢ [] → AreBuffered size at text ps (Some last) → AreOf text ps (Some last) false
part_buffers-AreOf size at text last [] taken some h = (taken_front last text (size - at % size) some h, refl)
part_buffers-AreOf size at text last (p ∷ ps) taken some h =
    (taken_front p.offered text (size - at % size) (some_taken p taken.0 taken.1) h.0, part_buffers-AreOf size (at + p.taken) (drop p.taken text) last ps taken.2 some h.1)

-- what went through a buffer is put
pub puts-PutsBuffered : (size : ℕ) (text : List ℕ) (a b : SinkState) (whole : Bool) → PutsBuffered size a text whole b → PutsText a text whole b
puts-PutsBuffered size text a b true put = record {
  pieces = put.pieces;
  fault = None;
  of_text = whole_buffers-AreOf size 0 text put.pieces (log-AreTaken a b put.pieces None put.log) put.offers put.whole;
  log = put.log;
}
puts-PutsBuffered size text a b false put = record {
  pieces = put.pieces;
  fault = Some put.last;
  of_text = part_buffers-AreOf size 0 text put.last put.pieces (log-AreTaken a b put.pieces (Some put.last) put.log) put.some put.offers;
  log = put.log;
}

-- and within the sure room it is put whole
pub sure-PutsBuffered : (size : ℕ) (text : List ℕ) (a b : SinkState) (whole : Bool) → PutsBuffered size a text whole b → IsPutSurely a.room (length text) whole
sure-PutsBuffered size text a b whole put = sure-PutsText a b text whole (puts-PutsBuffered size text a b whole put)

-- a text that went through a buffer that was cleared, and what was held back at its end
pub cleared-PutsBuffered : (size n m : ℕ) (text held now : List ℕ) (a b c : SinkState) (whole : Bool) → n ≡ size → held ≡ [] → m ≡ n → length now ≤ m
    → Gives n held a text true now b → PutsRests b now whole c → PutsBuffered size a text whole c
cleared-PutsBuffered size n m text held now a b c whole e empty f few one two =
    finish-PutsBuffered size text now a b c whole (omega (arith, few))
    (subst (λ k. Gives k [] a text true now b) e (subst (λ k. Gives n k a text true now b) empty one)) two

pub cleared_stop-PutsBuffered : (size n : ℕ) (text held now : List ℕ) (a b : SinkState) → n ≡ size → held ≡ []
    → Gives n held a text false now b → PutsBuffered size a text false b
cleared_stop-PutsBuffered size n text held now a b e empty one =
    stop-PutsBuffered size text now a b (subst (λ k. Gives k [] a text false now b) e (subst (λ k. Gives n k a text false now b) empty one))

-- ---- zeros, of which at most `some` are given at a time

zeros_split : (some left k : ℕ) → k ≤ some → k ≤ left → replicate {A = ℕ} left 0 ≡ take k (replicate some 0) ++ replicate (left - k) 0
zeros_split some left k few within =
    let count : k + (left - k) ≡ left = omega arith in
    ap (λ n. replicate {A = ℕ} n 0) (sym count) ∙ sym (replicate-append-replicate k (left - k) 0) ∙ ap (λ w. w ++ replicate {A = ℕ} (left - k) 0) (sym (take-replicate k some 0 few))

pub zeros-Toward : (size n some : ℕ) (held : List ℕ) (a b c : SinkState) (text middle last : List ℕ) (left k : ℕ)
    → Toward size held a text (replicate left 0) middle b → n ≡ size → k ≤ some → k ≤ left → Gives n middle b (take k (replicate some 0)) true last c
    → Toward size held a text (replicate (left - k) 0) last c
zeros-Toward size n some held a b c text middle last left k toward e few within gives =
    step-Toward size n held a b c text (take k (replicate some 0)) (replicate (left - k) 0) middle last
    (subst (λ r. Toward size held a text r middle b) (zeros_split some left k few within) toward) e gives

pub stop_zeros-Toward : (size n some : ℕ) (held : List ℕ) (a b c : SinkState) (text middle last : List ℕ) (left k : ℕ)
    → Toward size held a text (replicate left 0) middle b → n ≡ size → k ≤ some → k ≤ left → Gives n middle b (take k (replicate some 0)) false last c
    → (whole : Bool) → whole ≡ false → Gives size held a text whole last c
stop_zeros-Toward size n some held a b c text middle last left k toward e few within gives whole failed =
    stop-Toward size n held a b c text (take k (replicate some 0)) (replicate (left - k) 0) middle last
    (subst (λ r. Toward size held a text r middle b) (zeros_split some left k few within) toward) e gives whole failed
