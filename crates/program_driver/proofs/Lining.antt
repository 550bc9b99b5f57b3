-- The puts of lines.
use Rattle.std.proofs.Common.{◌≡◌, ℕ, suc, ◌+◌, ◌-◌, ◌<◌, Bool, true, false, List, [], ◌∷◌, ◌++◌, length, take, drop, get_or, drop-cons, refl, ap, ap₂, sym, ◌∙◌, subst, arith}
use Rattle.std.specs.Prelude.{◌≢◌, Result, Ok, Err}
use Rattle.std.proofs.lemmas.List.{append_assoc, append-nil, take_rest}
use Rattle.world_io.specs.Outside.{SinkState}
use Rattle.world_io.specs.Puts.{PutSays, Fits}
use Rattle.world_io.specs.Logs.{Offer, AreOffered}
use Rattle.world_io.specs.declared.sink.Put.{Put}
use Rattle.world_io.specs.declared.sink.Put.TheVariants as put
use Rattle.move_requests.proofs.Heard.{append-AreOffered}
use Rattle.spec_base.specs.declared.note.Note.{Note}
use Rattle.trace_text.specs.Line.{line_of}
use Rattle.program_driver.specs.Lines.{Line, AreOfLine, PutsLine, ArePut, StopsAt, PutsSome, LinesTo, note_lines}
use Rattle.program_driver.specs.declared.lines.LineFault.{LineFault}

-- ---- one line

-- a front of a line was put: whatever the puts of the rest are, with these they are those of the line
pub record LineLog (old : SinkState) (line rest : Line) (now : SinkState) : Type 0 where
  pub offers : List Offer
  pub goes_on : (more : List Offer) (whole : Bool) → AreOfLine rest more whole → AreOfLine line (offers ++ more) whole
  pub puts : AreOffered old offers now

pub first-LineLog : (old : SinkState) (line : Line) → LineLog old line line old
first-LineLog old line = record { offers = []; goes_on = λ more whole h. h; puts = refl }

one-offer : (now new : SinkState) (bytes : List ℕ) (answer : Put) → PutSays now bytes answer new → (Fits now.room (length bytes) → answer ≡ put.Took (length bytes))
    → AreOffered now ((bytes, answer) ∷ []) new
one-offer now new bytes answer says sure = (new, record { says = says; sure = sure }, refl)

module _ (old now new : SinkState) (line rest : Line) (log : LineLog old line rest now) where
  pub took-LineLog : (k : ℕ) → PutSays now rest (put.Took k) new → (Fits now.room (length rest) → put.Took k ≡ put.Took (length rest)) → LineLog old line (take (length rest - k) (drop k rest)) new
  took-LineLog k says sure =
      subst (λ more. LineLog old line more new) (sym (take_rest rest k))
      (record {
        offers = log.offers ++ (rest, put.Took k) ∷ [];
        goes_on = λ more whole h. (
            subst (λ offers. AreOfLine line offers whole) (sym (append_assoc log.offers ((rest, put.Took k) ∷ []) more)) (log.goes_on ((rest, put.Took k) ∷ more) whole (refl, h)));
        puts = append-AreOffered old now new log.offers ((rest, put.Took k) ∷ []) log.puts (one-offer now new rest (put.Took k) says sure);
      })

  pub failed-PutsLine : PutSays now rest put.Failed new → (Fits now.room (length rest) → put.Failed ≡ put.Took (length rest)) → PutsLine old line false new
  failed-PutsLine says sure =
      record {
        offers = log.offers ++ (rest, put.Failed) ∷ [];
        of_line = log.goes_on ((rest, put.Failed) ∷ []) false (refl, refl, refl);
        puts = append-AreOffered old now new log.offers ((rest, put.Failed) ∷ []) log.puts (one-offer now new rest put.Failed says sure);
      }

pub whole-PutsLine : (old now : SinkState) (line rest : Line) → LineLog old line rest now → length rest ≡ 0 → PutsLine old line true now
whole-PutsLine old now line (b ∷ rest) log none = absurd (let e : suc (length rest) ≡ 0 = none in omega (arith, e))
whole-PutsLine old now line [] log none =
    record {
      offers = log.offers;
      of_line = subst (λ offers. AreOfLine line offers true) (append-nil log.offers) (log.goes_on [] true (refl, refl));
      puts = log.puts;
    }

-- ---- several lines

pub append-ArePut : (a b c : SinkState) (xs ys : List Line) → ArePut a xs b → ArePut b ys c → ArePut a (xs ++ ys) c
append-ArePut a b c [] ys one two = subst (λ s. ArePut s ys c) one two
append-ArePut a b c (x ∷ xs) ys one two = (one.0, one.1, append-ArePut one.0 b c xs ys one.2 two)

-- lines that stop behind others
pub later-PutsSome : (fault : LineFault) (a b c : SinkState) (xs ys : List Line) → ArePut a xs b → PutsSome fault b ys c → PutsSome fault a (xs ++ ys) c
later-PutsSome fault a b c xs ys one two =
    record {
      whole = xs ++ two.whole;
      next = two.next;
      rest = two.rest;
      between = two.between;
      are = ap (λ l. xs ++ l) two.are ∙ sym (append_assoc xs two.whole (two.next ∷ two.rest));
      puts = append-ArePut a b two.between xs two.whole one two.puts;
      stops = two.stops;
    }

-- and before others
pub sooner-PutsSome : (fault : LineFault) (a b : SinkState) (xs ys : List Line) → PutsSome fault a xs b → PutsSome fault a (xs ++ ys) b
sooner-PutsSome fault a b xs ys one =
    record {
      whole = one.whole;
      next = one.next;
      rest = one.rest ++ ys;
      between = one.between;
      are = ap (λ l. l ++ ys) one.are ∙ append_assoc one.whole (one.next ∷ one.rest) ys;
      puts = one.puts;
      stops = one.stops;
    }

-- some lines behind others that were put
pub both-lines : (xs ys : List Line) (one two : Result (Unit {0}) LineFault) (a b c : SinkState) → ((fault : LineFault) → one ≢ Err fault) → LinesTo xs one a b → LinesTo ys two b c → LinesTo (xs ++ ys) two a c
both-lines xs ys (Err fault) two a b c good first then = absurd (good fault refl)
both-lines xs ys (Ok done) (Ok all) a b c good first then = append-ArePut a b c xs ys first then
both-lines xs ys (Ok done) (Err fault) a b c good first then = later-PutsSome fault a b c xs ys first then

-- and some that weren't
pub first-lines : (xs ys : List Line) (fault : LineFault) (one : Result (Unit {0}) LineFault) (a b : SinkState) → one ≡ Err fault → LinesTo xs one a b → LinesTo (xs ++ ys) (Err fault) a b
first-lines xs ys fault one a b is first = sooner-PutsSome fault a b xs ys (subst (λ answer. LinesTo xs answer a b) is first)

pub stops-one : (fault : LineFault) (a b : SinkState) (line : Line) → StopsAt fault a line b → PutsSome fault a (line ∷ []) b
stops-one fault a b line stops = record { whole = []; next = line; rest = []; between = a; are = refl; puts = refl; stops = stops }

-- ---- lines one after the other

-- of these lines some were put, and these are still to come
pub record LinesLog (old : SinkState) (lines rest : List Line) (now : SinkState) : Type 0 where
  pub sooner : List Line
  pub are : lines ≡ sooner ++ rest
  pub puts : ArePut old sooner now

pub next-LinesLog : (old now new : SinkState) (lines rest more : List Line) (line : Line) → LinesLog old lines rest now → rest ≡ line ∷ more → ArePut now (line ∷ []) new → LinesLog old lines more new
next-LinesLog old now new lines rest more line log is puts =
    record {
      sooner = log.sooner ++ line ∷ [];
      are = log.are ∙ ap (λ l. log.sooner ++ l) is ∙ sym (append_assoc log.sooner (line ∷ []) more);
      puts = append-ArePut old now new log.sooner (line ∷ []) log.puts puts;
    }

pub stop-LinesLog : (fault : LineFault) (old now new : SinkState) (lines rest more : List Line) (line : Line) → LinesLog old lines rest now → rest ≡ line ∷ more → PutsSome fault now (line ∷ []) new
    → PutsSome fault old lines new
stop-LinesLog fault old now new lines rest more line log is stops =
    subst (λ l. PutsSome fault old l new) (sym (log.are ∙ ap (λ l. log.sooner ++ l) is))
    (later-PutsSome fault old now new log.sooner (line ∷ more) log.puts (sooner-PutsSome fault now new (line ∷ []) more stops))

-- ---- the lines of notes

-- the note at a place, and those behind it
pub note-at : (notes : List Note) (i : ℕ) (note : Note) → i < length notes → note ≡ get_or notes i note → drop i notes ≡ note ∷ drop (i + 1) notes
note-at notes i note in_list is =
    let next : suc i ≡ i + 1 = omega arith in
    drop-cons notes i note in_list ∙ ap₂ (λ n k. n ∷ drop k notes) (sym is) next

pub lines-at : (own shadow : ℕ) (notes : List Note) (text : List ℕ) (i : ℕ) (note : Note) → i < length notes → note ≡ get_or notes i note
    → note_lines own shadow (drop i notes) text ≡ line_of own shadow note text ∷ note_lines own shadow (drop (i + 1) notes) text
lines-at own shadow notes text i note in_list is = ap (λ l. note_lines own shadow l text) (note-at notes i note in_list is)
