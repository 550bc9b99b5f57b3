-- Logs of sinks, put by put.
use Rattle.std.proofs.Common.{◌≡◌, ◌≢◌, ℕ, ◌+◌, ◌-◌, ◌≤◌, ◌<◌, Bool, true, false, List, [], ◌∷◌, ◌++◌, length, take, drop, map, arith, sym, ap, subst, refl, ◌∙◌, Some, None, Option, append_assoc, length-append}
use Rattle.std.specs.Option.{option_map}
use Rattle.std.proofs.lemmas.List.{append-nil, length-take, length-drop, take_all, take-append-le, take-append-drop, drop-append-le}
use Rattle.world_io.specs.Outside.{SinkState, Room, Sure, Endless, Rose}
use Rattle.world_io.specs.Puts.{PutSays, Fits, room_left, took}
use Rattle.world_io.specs.Buffers.{sure_room}
use Rattle.world_io.specs.Logs.{Piece, IsOffered, SinkLog, bytes_of, sizes, AreTaken}
use Rattle.world_io.specs.Texts.{IsFront, AreOf, PutsText, IsPutSurely}
use Rattle.world_io.specs.declared.sink.Put.{Put}
use Rattle.world_io.specs.declared.sink.Put.TheVariants.{Took, Failed}

-- ---- room

-- no bytes leave the room
pub room_left-zero : (room : Room) (n : ℕ) → n ≡ 0 → room_left room n ≡ room
room_left-zero (Sure room) n e = ap Sure (omega arith)
room_left-zero Endless n e = refl

-- the room after two parts
pub room_left-add : (room : Room) (m n : ℕ) → room_left (room_left room m) n ≡ room_left room (m + n)
room_left-add (Sure room) m n = ap Sure (omega arith)
room_left-add Endless m n = refl

-- what is within the room together is so part by part
pub fits-add : (room : Room) (m n : ℕ) → Fits room (m + n) → Fits room m × Fits (room_left room m) n
fits-add (Sure room) m n h = (omega arith, omega arith)
fits-add Endless m n h = (tt, tt)

-- the sure room of a sink with lists falls by what is taken
pub sure_room-left : (fails most : List ℕ) (left k : ℕ) → sure_room fails most (left - k) ≡ sure_room fails most left - k
sure_room-left [] [] left k = refl
sure_room-left (n ∷ fails) most left k = omega arith
sure_room-left [] (n ∷ most) left k = omega arith

-- ---- logs

-- the bytes of one piece more
pub bytes_of-more : (ps : List Piece) (p : Piece) → bytes_of (ps ++ p ∷ []) ≡ bytes_of ps ++ take p.taken p.offered
bytes_of-more [] p = append-nil (take p.taken p.offered)
bytes_of-more (q ∷ qs) p = ap (λ w. take q.taken q.offered ++ w) (bytes_of-more qs p)
    ∙ sym (append_assoc (take q.taken q.offered) (bytes_of qs) (take p.taken p.offered))

-- one more piece
abbrev pub piece : List ℕ → ℕ → Piece
piece bytes k = record { offered = bytes; taken = k }

-- one log after another
pub append-SinkLog : (a b c : SinkState) (ps qs : List Piece) (fault : Option (List ℕ)) → SinkLog a ps None b → SinkLog b qs fault c
    → SinkLog a (ps ++ qs) fault c
append-SinkLog a b c [] qs fault one two = subst (λ s. SinkLog s qs fault c) one two
append-SinkLog a b c (p ∷ ps) qs fault one two = (one.0, one.1, append-SinkLog one.0 b c ps qs fault one.2 two)

-- the empty log
pub none-SinkLog : (a : SinkState) → SinkLog a [] None a
none-SinkLog a = refl

-- one put that took bytes
pub one-SinkLog : (a b : SinkState) (bytes : List ℕ) (k : ℕ) → PutSays a bytes (Took k) b
    → (Fits a.room (length bytes) → Took k ≡ Took (length bytes)) → SinkLog a (piece bytes k ∷ []) None b
one-SinkLog a b bytes k says sure = (b, record { says = says; sure = sure }, refl)

-- one put that failed
pub failed-SinkLog : (a b : SinkState) (bytes : List ℕ) → PutSays a bytes Failed b
    → (Fits a.room (length bytes) → Failed ≡ Took (length bytes)) → SinkLog a [] (Some bytes) b
failed-SinkLog a b bytes says sure = (b, record { says = says; sure = sure }, refl)

-- the pieces of a log were taken
pub log-AreTaken : (a b : SinkState) (ps : List Piece) (fault : Option (List ℕ)) → SinkLog a ps fault b → AreTaken ps
log-AreTaken a b [] fault log = tt
log-AreTaken a b (p ∷ ps) fault log = (log.1.says.0, log.1.says.1, log-AreTaken log.0 b ps fault log.2)

grown : {A : Type 0} (o : Option (List A)) (xs ys : List A) → option_map (λ all. all ++ ys) (option_map (λ all. all ++ xs) o) ≡ option_map (λ all. all ++ (xs ++ ys)) o
grown None xs ys = refl
grown (Some all) xs ys = ap Some (append_assoc all xs ys)

unchanged : {A : Type 0} (o : Option (List A)) → o ≡ option_map (λ all. all ++ []) o
unchanged None = refl
unchanged (Some all) = ap Some (sym (append-nil all))

-- what the sink tells as its bytes grew by those that were taken
pub log-bytes : (a b : SinkState) (ps : List Piece) (fault : Option (List ℕ)) → SinkLog a ps fault b
    → b.bytes ≡ option_map (λ all. all ++ bytes_of ps) a.bytes
log-bytes a b [] None log = ap (λ s. s.bytes) log ∙ unchanged a.bytes
log-bytes a b [] (Some bytes) log = ap (λ s. s.bytes) log.2 ∙ ap (λ s. s.bytes) log.1.says.2 ∙ unchanged a.bytes
log-bytes a b (p ∷ ps) fault log = log-bytes log.0 b ps fault log.2
    ∙ ap (λ s. option_map (λ all. all ++ bytes_of ps) s.bytes) log.1.says.3
    ∙ grown a.bytes (take p.taken p.offered) (bytes_of ps)

-- what it tells as its puts grew by these
pub log-puts : (a b : SinkState) (ps : List Piece) (fault : Option (List ℕ)) → SinkLog a ps fault b
    → b.puts ≡ option_map (λ all. all ++ map sizes ps) a.puts
log-puts a b [] None log = ap (λ s. s.puts) log ∙ unchanged a.puts
log-puts a b [] (Some bytes) log = ap (λ s. s.puts) log.2 ∙ ap (λ s. s.puts) log.1.says.2 ∙ unchanged a.puts
log-puts a b (p ∷ ps) fault log = log-puts log.0 b ps fault log.2
    ∙ ap (λ s. option_map (λ all. all ++ map sizes ps) s.puts) log.1.says.3
    ∙ grown a.puts (sizes p ∷ []) (map sizes ps)

-- what it was made with stays
pub log-fixed : (a b : SinkState) (ps : List Piece) (fault : Option (List ℕ)) → SinkLog a ps fault b → b.fixed ≡ a.fixed
log-fixed a b [] None log = ap (λ s. s.fixed) log
log-fixed a b [] (Some bytes) log = ap (λ s. s.fixed) log.2 ∙ ap (λ s. s.fixed) log.1.says.2
log-fixed a b (p ∷ ps) fault log = log-fixed log.0 b ps fault log.2 ∙ ap (λ s. s.fixed) log.1.says.3

long_piece : (p : Piece) (ps : List Piece) → p.taken ≤ length p.offered → length (bytes_of (p ∷ ps)) ≡ p.taken + length (bytes_of ps)
long_piece p ps few = length-append (take p.taken p.offered) (bytes_of ps)
    ∙ ap (λ n. n + length (bytes_of ps)) (omega (arith, length-take {A = ℕ}))

-- its sure room fell by what was taken
pub log-room : (a b : SinkState) (ps : List Piece) (fault : Option (List ℕ)) → SinkLog a ps fault b
    → b.room ≡ room_left a.room (length (bytes_of ps))
log-room a b [] None log = ap (λ s. s.room) log ∙ sym (room_left-zero a.room 0 refl)
log-room a b [] (Some bytes) log = ap (λ s. s.room) log.2 ∙ ap (λ s. s.room) log.1.says.2 ∙ sym (room_left-zero a.room 0 refl)
log-room a b (p ∷ ps) fault log = log-room log.0 b ps fault log.2
    ∙ ap (λ s. room_left s.room (length (bytes_of ps))) log.1.says.3
    ∙ room_left-add a.room p.taken (length (bytes_of ps))
    ∙ ap (room_left a.room) (sym (long_piece p ps log.1.says.1))

-- where no put failed its count stood
pub log-steady : (a b : SinkState) (ps : List Piece) → SinkLog a ps None b → b.faults ≡ a.faults
log-steady a b [] log = ap (λ s. s.faults) log
log-steady a b (p ∷ ps) log = log-steady log.0 b ps log.2 ∙ ap (λ s. s.faults) log.1.says.3

-- where one failed it rose
pub log-rose : (a b : SinkState) (ps : List Piece) (bytes : List ℕ) → SinkLog a ps (Some bytes) b → Rose a.faults b.faults
log-rose a b [] bytes log = subst (λ s. Rose a.faults s.faults) (sym log.2) log.1.says.1
log-rose a b (p ∷ ps) bytes log =
    subst (λ n. Rose n b.faults) (ap (λ s. s.faults) log.1.says.3) (log-rose log.0 b ps bytes log.2)

-- it never falls
pub log-later : (a b : SinkState) (ps : List Piece) (fault : Option (List ℕ)) → SinkLog a ps fault b → a.faults ≤ b.faults
log-later a b [] None log = (let same = ap (λ s. s.faults) log in omega arith)
log-later a b [] (Some bytes) log = (let same = ap (λ s. s.faults) log.2 in omega (arith, log.1.says.0))
log-later a b (p ∷ ps) fault log =
    (let same = ap (λ s. s.faults) log.1.says.3 in omega (arith, log-later log.0 b ps fault log.2))

-- ---- texts

-- a text of which some puts were made: whatever is put of the rest, is put of the text
abbrev pub TextLog : SinkState → List ℕ → List ℕ → SinkState → Type 0
TextLog old text rest now = (whole : Bool) (end : SinkState) → PutsText now rest whole end → PutsText old text whole end

-- nothing of a text has been put yet
pub none-TextLog : (a : SinkState) (text : List ℕ) → TextLog a text text a
none-TextLog a text = λ whole end puts. puts

some-≢ : (bytes : List ℕ) → 0 < length bytes → bytes ≢ []
some-≢ [] some = λ e. omega arith
some-≢ (x ∷ bytes) some = λ e. cc

-- a put of the whole rest offers a front of it
whole_front : (rest : List ℕ) → 0 < length rest → IsFront rest rest
whole_front rest some = (some-≢ rest some, ([], append-nil rest))

-- a text goes on by a put
pub put-TextLog : (a b c : SinkState) (text rest : List ℕ) (k : ℕ) → TextLog a text rest b
    → PutSays b rest (Took k) c → (Fits b.room (length rest) → Took k ≡ Took (length rest))
    → TextLog a text (take (length rest - k) (drop k rest)) c
put-TextLog a b c text rest k log says sure = λ whole end puts. log whole end (record {
  pieces = piece rest k ∷ puts.pieces;
  fault = puts.fault;
  of_text = (
    whole_front rest (omega (arith, says.0, says.1)),
    subst (λ t. AreOf t puts.pieces puts.fault whole) (take_all (length rest - k) (drop k rest) (omega (arith, length-drop {A = ℕ}))) puts.of_text,
  );
  log = (c, record { says = says; sure = sure }, puts.log);
})

-- nothing to put
none-PutsText : (a : SinkState) (rest : List ℕ) → length rest ≡ 0 → PutsText a rest true a
none-PutsText a [] e = record { pieces = []; fault = None; of_text = (refl, refl); log = refl }
none-PutsText a (x ∷ rest) e = absurd (omega arith)

-- a text of which nothing is left is put whole
pub whole-PutsText : (a b : SinkState) (text rest : List ℕ) → TextLog a text rest b → length rest ≡ 0 → PutsText a text true b
whole-PutsText a b text rest log e = log true b (none-PutsText b rest e)

-- a put failed before the end of a text
pub failed-PutsText : (a b c : SinkState) (text rest : List ℕ) → TextLog a text rest b → 0 < length rest
    → PutSays b rest Failed c → (Fits b.room (length rest) → Failed ≡ Took (length rest)) → PutsText a text false c
failed-PutsText a b c text rest log some says sure = log false c (record {
  pieces = [];
  fault = Some rest;
  of_text = (whole_front rest some, refl);
  log = failed-SinkLog b c rest says sure;
})

-- a front of a text is one however it goes on
front_on : (bytes first second : List ℕ) → IsFront bytes first → IsFront bytes (first ++ second)
front_on bytes first second h = (h.0, (h.1.0 ++ second, sym (append_assoc bytes h.1.0 second) ∙ ap (λ w. w ++ second) h.1.1))

-- a front is no longer than its text
front_fits : (bytes text : List ℕ) → IsFront bytes text → length bytes ≤ length text
front_fits bytes text h = (let long = ap length h.1.1 in omega (arith, length-append {A = ℕ}))

-- what is left of a longer text
left_on : (p : Piece) (first second : List ℕ) → p.taken ≤ length p.offered → IsFront p.offered first
    → drop p.taken first ++ second ≡ drop p.taken (first ++ second)
left_on p first second few front = sym (drop-append-le p.taken first second (omega (arith, front_fits p.offered first front)))

-- the puts of a text, and then those of one behind it
then-AreOf : (first second : List ℕ) (ps qs : List Piece) (fault : Option (List ℕ)) (whole : Bool) → AreTaken ps
    → AreOf first ps None true → AreOf second qs fault whole → AreOf (first ++ second) (ps ++ qs) fault whole
then-AreOf first second [] qs fault whole taken one two = subst (λ f. AreOf (f ++ second) qs fault whole) (sym one.0) two
then-AreOf first second (p ∷ ps) qs fault whole taken one two = (
  front_on p.offered first second one.0,
  subst (λ t. AreOf t (ps ++ qs) fault whole) (left_on p first second taken.1 one.0)
      (then-AreOf (drop p.taken first) second ps qs fault whole taken.2 one.1 two),
)

-- the puts of a text that weren't whole are those of a longer one
part-AreOf : (first second : List ℕ) (ps : List Piece) (fault : Option (List ℕ)) → AreTaken ps
    → AreOf first ps fault false → AreOf (first ++ second) ps fault false
part-AreOf first second [] None taken one = absurd (let e : false ≡ true = one.1 in cc)
part-AreOf first second [] (Some bytes) taken one = (front_on bytes first second one.0, refl)
part-AreOf first second (p ∷ ps) fault taken one = (
  front_on p.offered first second one.0,
  subst (λ t. AreOf t ps fault false) (left_on p first second taken.1 one.0)
      (part-AreOf (drop p.taken first) second ps fault taken.2 one.1),
)

-- where a text was put whole no put failed
whole_fault : (text : List ℕ) (ps : List Piece) (fault : Option (List ℕ)) → AreOf text ps fault true → fault ≡ None
whole_fault text [] None of_text = refl
whole_fault text [] (Some bytes) of_text = absurd (let e : true ≡ false = of_text.1 in cc)
whole_fault text (p ∷ ps) fault of_text = whole_fault (drop p.taken text) ps fault of_text.1

-- where it wasn't one did
part_fault : (text : List ℕ) (ps : List Piece) (fault : Option (List ℕ)) → AreOf text ps fault false → (bytes : List ℕ) × (fault ≡ Some bytes)
part_fault text [] None of_text = absurd (let e : false ≡ true = of_text.1 in cc)
part_fault text [] (Some bytes) of_text = (bytes, refl)
part_fault text (p ∷ ps) fault of_text = part_fault (drop p.taken text) ps fault of_text.1

-- the steady log of a text that was put whole
pub whole-SinkLog : (a b : SinkState) (text : List ℕ) (puts : PutsText a text true b) → SinkLog a puts.pieces None b
whole-SinkLog a b text puts = subst (λ f. SinkLog a puts.pieces f b) (whole_fault text puts.pieces puts.fault puts.of_text) puts.log

-- while a text was put whole the count stood
pub steady-PutsText : (a b : SinkState) (text : List ℕ) → PutsText a text true b → b.faults ≡ a.faults
steady-PutsText a b text puts = log-steady a b puts.pieces (whole-SinkLog a b text puts)

-- where it wasn't whole the count rose
pub rose-PutsText : (a b : SinkState) (text : List ℕ) → PutsText a text false b → Rose a.faults b.faults
rose-PutsText a b text puts =
    let one = part_fault text puts.pieces puts.fault puts.of_text in
    log-rose a b puts.pieces one.0 (subst (λ f. SinkLog a puts.pieces f b) one.1 puts.log)

-- a text after one that was put whole
pub then-PutsText : (a b c : SinkState) (first second : List ℕ) (whole : Bool) → PutsText a first true b → PutsText b second whole c
    → PutsText a (first ++ second) whole c
then-PutsText a b c first second whole one two =
    let log = whole-SinkLog a b first one in
    record {
      pieces = one.pieces ++ two.pieces;
      fault = two.fault;
      of_text = then-AreOf first second one.pieces two.pieces two.fault whole (log-AreTaken a b one.pieces None log)
          (subst (λ f. AreOf first one.pieces f true) (whole_fault first one.pieces one.fault one.of_text) one.of_text) two.of_text;
      log = append-SinkLog a b c one.pieces two.pieces two.fault log two.log;
    }

-- nothing after a text that was put in part
pub longer-PutsText : (a b : SinkState) (first second : List ℕ) → PutsText a first false b → PutsText a (first ++ second) false b
longer-PutsText a b first second one = record {
  pieces = one.pieces;
  fault = one.fault;
  of_text = part-AreOf first second one.pieces one.fault (log-AreTaken a b one.pieces one.fault one.log) one.of_text;
  log = one.log;
}

-- what a put took of a front of a text is a front of the text
taken_front : (p : Piece) (text : List ℕ) → p.taken ≤ length p.offered → IsFront p.offered text → take p.taken p.offered ≡ take p.taken text
taken_front p text few front = sym (ap (take p.taken) (sym front.1.1) ∙ take-append-le p.taken p.offered front.1.0 few)

-- what was taken is the text up to a rest, which is left exactly where the text isn't whole
pub record IsPart (text : List ℕ) (ps : List Piece) (whole : Bool) : Type 0 where
  pub rest : List ℕ
  pub parts : bytes_of ps ++ rest ≡ text
  pub none : whole ≡ true → rest ≡ []
  pub some : whole ≡ false → rest ≢ []

front_some : (bytes text : List ℕ) → IsFront bytes text → text ≢ []
front_some [] text front = λ e. front.0 refl
front_some (x ∷ bytes) text front = λ e. (let wrong : x ∷ (bytes ++ front.1.0) ≡ [] = front.1.1 ∙ e in cc)

pub part-AreTaken : (text : List ℕ) (ps : List Piece) (fault : Option (List ℕ)) (whole : Bool) → AreTaken ps → AreOf text ps fault whole → IsPart text ps whole
part-AreTaken text [] None whole taken of_text = record { rest = text; parts = refl; none = λ e. of_text.0; some = λ e. absurd (let is = of_text.1 in cc) }
part-AreTaken text [] (Some bytes) whole taken of_text =
    record { rest = text; parts = refl; none = λ e. absurd (let is = of_text.1 in cc); some = λ e. front_some bytes text of_text.0 }
part-AreTaken text (p ∷ ps) fault whole taken of_text =
    let later = part-AreTaken (drop p.taken text) ps fault whole taken.2 of_text.1 in
    record {
      rest = later.rest;
      parts = append_assoc (take p.taken p.offered) (bytes_of ps) later.rest ∙ ap (λ w. take p.taken p.offered ++ w) later.parts
          ∙ ap (λ w. w ++ drop p.taken text) (taken_front p text taken.1 of_text.0) ∙ take-append-drop p.taken text;
      none = later.none;
      some = later.some;
    }

-- what the puts of a text took of it
pub part-PutsText : (a b : SinkState) (text : List ℕ) (whole : Bool) (puts : PutsText a text whole b) → IsPart text puts.pieces whole
part-PutsText a b text whole puts =
    part-AreTaken text puts.pieces puts.fault whole (log-AreTaken a b puts.pieces puts.fault puts.log) puts.of_text

-- a text that was put whole lowered the sure room by its length
pub room-PutsText : (a b : SinkState) (text : List ℕ) → PutsText a text true b → b.room ≡ room_left a.room (length text)
room-PutsText a b text puts =
    let part = part-PutsText a b text true puts in
    let all : bytes_of puts.pieces ≡ text = sym (append-nil (bytes_of puts.pieces)) ∙ ap (λ r. bytes_of puts.pieces ++ r) (sym (part.none refl)) ∙ part.parts in
    log-room a b puts.pieces puts.fault puts.log ∙ ap (λ t. room_left a.room (length t)) all

-- fewer bytes are within the sure room too
fits_fewer : (room : Room) (m n : ℕ) → m ≤ n → Fits room n → Fits room m
fits_fewer (Sure room) m n few fits = omega arith
fits_fewer Endless m n few fits = tt

sure-AreOf : (a b : SinkState) (text : List ℕ) (ps : List Piece) (fault : Option (List ℕ)) (whole : Bool) → AreOf text ps fault whole
    → SinkLog a ps fault b → Fits a.room (length text) → whole ≡ true
sure-AreOf a b text [] None whole of_text log fits = of_text.1
sure-AreOf a b text [] (Some bytes) whole of_text log fits =
    absurd (let never : Failed ≡ Took (length bytes) = log.1.sure (fits_fewer a.room (length bytes) (length text) (front_fits bytes text of_text.0) fits) in cc)
sure-AreOf a b text (p ∷ ps) fault whole of_text log fits =
    let few : p.taken ≤ length text = omega (arith, front_fits p.offered text of_text.0, log.1.says.1) in
    let parts : length text ≡ p.taken + length (drop p.taken text) = omega (arith, length-drop {A = ℕ}) in
    let left : Fits (room_left a.room p.taken) (length (drop p.taken text)) =
    (fits-add a.room p.taken (length (drop p.taken text)) (subst (Fits a.room) parts fits)).1 in
    sure-AreOf log.0 b (drop p.taken text) ps fault whole of_text.1 log.2
    (subst (λ r. Fits r (length (drop p.taken text))) (sym (ap (λ s. s.room) log.1.says.3)) left)

-- a text within the sure room is put whole
pub sure-PutsText : (a b : SinkState) (text : List ℕ) (whole : Bool) → PutsText a text whole b → IsPutSurely a.room (length text) whole
sure-PutsText a b text whole puts = λ fits. sure-AreOf a b text puts.pieces puts.fault whole puts.of_text puts.log fits
