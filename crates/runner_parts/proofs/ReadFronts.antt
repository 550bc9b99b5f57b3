-- What the own hart has of a read that it stands at.
use Rattle.std.proofs.Common.{◌≡◌, ℕ, pos, Bool, true, false, ◌*◌, ◌%◌, ◌++◌, drop, ◌≤◌, List, take, length, inl, inr, refl, sym, ap, subst, ◌∙◌, arith}
use Rattle.std.proofs.lemmas.List.{take_all, take-append-drop}
use Rattle.spec_base.specs.declared.spot.BlockSpot.{BlockSpot}
use Rattle.spec_base.specs.declared.spot.ReadSpot.{ReadSpot}
use Rattle.program_model.specs.Cache.{Cache, blocks_of}
use Rattle.program_model.specs.Calls.{CallPlan, Set, Look, Read, Write, Exit, bytes_read}
use Rattle.program_model.specs.PlainRun.{State}
use Rattle.run_model.specs.OwnMoves.{call_note, read_notes}
use Rattle.run_model.specs.Run.{World, Run}
use Rattle.runner_parts.specs.Parts.{own_side, IsAtRest, Gathers}
use Rattle.runner_parts.specs.OwnCalls.{IsAtPlan, told_read}
use Rattle.runner_parts.specs.Staged.{joined, staged}
use Rattle.runner_parts.proofs.Staged.{bytes_are_staged}

-- the spot of a planned read
abbrev spot_or : ReadSpot → CallPlan → ReadSpot
spot_or other (Read d spot a) = spot
spot_or other _ = other

-- so many blocks of a read stand in a buffer
pub record HasFront (w : World) (spot : ReadSpot) (had : ℕ) (staged : List ℕ) : Type 0 where
  pub some : had ≤ length (blocks_of spot)
  pub staged_are : take (4096 * had) staged ≡ joined w.files (take had (blocks_of spot))

none-had : (w : World) (spot : ReadSpot) (staged : List ℕ) → HasFront w spot 0 staged
none-had w spot staged = record { some = omega arith; staged_are = refl }

pub has-front :
    (w : World) (r : Run) (d : ℕ) (spot : ReadSpot) (a : ℕ) (cache : Cache) (staged : List ℕ) → IsAtPlan w r (Read d spot a)
    → Gathers w (own_side r) cache staged → HasFront w spot r.gathered staged
has-front w r d spot a cache staged plan (inl rest) = subst (λ (n : ℕ). HasFront w spot n staged) (sym rest.none) (none-had w spot staged)
has-front w r d spot a cache staged plan (inr (inr x)) = absurd (let e : false ≡ true = sym plan.goes ∙ x.waits in cc)
has-front w r d spot a cache staged plan (inr (inl g)) =
    let same : g.spot ≡ spot = ap (λ (p : CallPlan). spot_or spot p) (sym g.planned ∙ plan.planned) in
    subst (λ (s : ReadSpot). HasFront w s r.gathered staged) same (record { some = g.some; staged_are = g.staged_are })

-- no text, whatever the buffer
pub silent-text : (t : ℕ) (now old text : List ℕ) → t ≡ 0 → take t old ≡ text → take t now ≡ text
silent-text t now old text none is = ap (λ (k : ℕ). take k now) none ∙ sym (ap (λ (k : ℕ). take k old) none) ∙ is

-- where all its blocks are had, its bytes stand there
pub bytes-here :
    (w : World) (spot : ReadSpot) (n : ℕ) (buffer : List ℕ) → HasFront w spot n buffer → n ≡ length (blocks_of spot) → length (bytes_read w.files spot) ≡ spot.count
    → take spot.count (drop (spot.offset % 4096) buffer) ≡ bytes_read w.files spot
bytes-here w spot n buffer front all long =
    let blocks : take n (blocks_of spot) ≡ blocks_of spot = take_all n (blocks_of spot) (omega (arith, all)) in
    let split : buffer ≡ staged w.files spot ++ drop (4096 * n) buffer =
    sym (take-append-drop (4096 * n) buffer) ∙ ap (λ (k : List ℕ). k ++ drop (4096 * n) buffer) (front.staged_are ∙ ap (λ (k : List BlockSpot). joined w.files k) blocks) in
    ap (λ (k : List ℕ). take spot.count (drop (spot.offset % 4096) k)) split ∙ bytes_are_staged w.files spot (drop (4096 * n) buffer) long

-- ---- what is told

pub told-is : (asked : Bool) (s : State) (spot : ReadSpot) → told_read asked spot (call_note s (pos spot.count)) ≡ read_notes asked s spot
told-is true s spot = refl
told-is false s spot = refl

-- ---- at another call

abbrev pub is_read_plan : CallPlan → Bool
is_read_plan (Read d spot a) = true
is_read_plan (Set f answer) = false
is_read_plan (Look name) = false
is_read_plan (Write to_out a n) = false
is_read_plan (Exit code) = false

-- it has nothing of a read there
pub rest-other : (w : World) (r : Run) (plan : CallPlan) (cache : Cache) (staged : List ℕ) → IsAtPlan w r plan → is_read_plan plan ≡ false → Gathers w (own_side r) cache staged → IsAtRest (own_side r) cache
rest-other w r plan cache staged at other (inl rest) = rest
rest-other w r plan cache staged at other (inr (inl g)) = absurd (let e : true ≡ false = ap (λ (p : CallPlan). is_read_plan p) (sym g.planned ∙ at.planned) ∙ other in cc)
rest-other w r plan cache staged at other (inr (inr x)) = absurd (let e : false ≡ true = sym at.goes ∙ x.waits in cc)
