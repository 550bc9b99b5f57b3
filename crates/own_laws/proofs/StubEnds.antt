-- No word of the stub traps, and a run that ends in the stub ends at its call.
use Rattle.std.proofs.Common.{◌≡◌, ℕ, ◌+◌, ◌*◌, ◌<◌, Bool, true, false, List, [], ◌∷◌, Option, Some, None, drop, refl, ◌∙◌, ap, sym, subst, arith, is_some}
use Rattle.spec_base.specs.Layout.{stub_start}
use Rattle.spec_base.specs.declared.machine.View.TheVariants.{Program, Stub}
use Rattle.spec_base.specs.declared.note.Move.{Move}
use Rattle.spec_base.specs.declared.note.Move.TheVariants.{O, S, T, D}
use Rattle.spec_base.specs.declared.note.Note.{Note}
use Rattle.spec_base.specs.declared.note.ShadowState.{ShadowState}
use Rattle.spec_base.specs.declared.spot.BlockSpot.{BlockSpot}
use Rattle.spec_base.specs.declared.spot.ReadSpot.{ReadSpot}
use Rattle.rv_decode.specs.declared.instr.Instr.{Instr}
use Rattle.rv_decode.specs.declared.instr.Instr.TheVariants.{Hleave, Hcall}
use Rattle.rv_model.specs.Memory.{Memory}
use Rattle.rv_model.specs.Effect.{Effect, Next, Stored, Trapped, Called, Gated, fetched}
use Rattle.program_model.specs.Calls.{CallPlan, Set, Look, Read, Write, Exit}
use Rattle.program_model.specs.Cache.{Cache, Gathered, gather, blocks_of, in_flight}
use Rattle.program_model.specs.PlainRun.{State}
use Rattle.code_model.specs.Stub.{stub}
use Rattle.run_model.specs.Run.{World, Run, RunEnd, Answer, Usual, Took, Failed, Lost, opened_run}
use Rattle.run_model.specs.OwnMoves.{stub_after, stub_at, own_call_step, read_on, look_done, write_step, write_done, taken_in, own_step}
use Rattle.run_model.specs.Moves.{Moves, step, step_unless, begun, run, run_from, fetch_of, fetch_ends, fetch_failed, landed_with}
use Rattle.run_laws.specs.Completes.{StubGoesOn, goes_on, stores, asks, StubWordCompletes}
use Rattle.run_laws.specs.OwnLaws.{Accepted}
use Rattle.run_laws.specs.StubLaws.{StubWordsComplete, IsExitOrFault, EndsAtCall, StubEndsAtCall}
use Rattle.own_laws.proofs.InvisibleShadow.{shadow_move-keeps}
use Rattle.own_laws.proofs.OneCall.{program_stub}
use Rattle.own_laws.proofs.OwnLaws.{own_side}
use Rattle.own_laws.proofs.OwnSide.{OwnSide, call-place, in_program, in_stub, at_call, waits, called, over, plan, placed}
use Rattle.own_laws.proofs.Passage.{Entered, own-enters}
use Rattle.own_laws.proofs.Progress.{Keeps, keeps, start-keeps}
use Rattle.own_laws.proofs.Reached.{reached-fits, none_some, false_true}
use Rattle.own_laws.proofs.Side.{side_of, with_side, Tally, Kept}
use Rattle.own_laws.proofs.StubRows.{left, WordGoes, to_row, to_restarted, to_call, word_goes}
use Rattle.own_laws.proofs.StubWords.{stub_side}

-- ---- where a word leads

-- it ends nothing, and the own hart comes to a word with fewer words left
record Onward (k : ℕ) (next : Run) : Type 0 where
  goes : next.end ≡ None
  word : ℕ
  at : next.own.pc ≡ 0x417F_FFFC + 4 * word
  less : left word < left k

onward : {q : State} {t : Tally} {k : ℕ} {cache : Cache} {m : Memory} {s : ShadowState} {next : Run} → WordGoes q t k cache m s next → Onward k next
onward (to_row l a b c page row is less cache on) = record { goes = ap (λ p. p.end) is; word = l; at = ap (λ p. p.own.pc) is; less = less }
onward (to_restarted c page s is less cache full e runs) = record { goes = ap (λ p. p.end) is; word = 71; at = ap (λ p. p.own.pc) is; less = less }
onward (to_call page is less cache e f goes) = record { goes = ap (λ p. p.end) is; word = 26; at = ap (λ p. p.own.pc) is; less = less }

-- ---- a word completes

module _ (w : World) (x : Answer) (r : Run) (k : ℕ) (at : r.own.pc ≡ 0x417F_FFFC + 4 * k) where
  -- a word that leads on doesn't trap, and makes no call of the plain view
  effect-completes : (e : Effect) → Onward k (stub_after w x r e) → StubGoesOn e
  effect-completes (Next rs pc) y = goes_on rs pc
  effect-completes (Stored a width v) y = stores a width v
  effect-completes (Gated i) y = asks i
  effect-completes (Trapped cause) y = none_some (sym y.goes)
  effect-completes Called y = absurd (no (subst (λ l. left l < left k) same y.less))
    where
      same : y.word ≡ k
      same = omega (arith, at, y.at)

      no : left k < left k → ⊥
      no h = omega (arith, h)

  word-completes : (o : Option Instr) → fetched stub stub_start r.own.pc ≡ o → Onward k (stub_at w x r o) → StubWordCompletes r
  word-completes None e y = none_some (sym y.goes)
  word-completes (Some i) e y = record { word = i; fetched = e; completes = effect-completes _ y }

-- a run whose own hart is at a known word
completes : (w : World) (r : Run) (k : ℕ) → r.own.pc ≡ 0x417F_FFFC + 4 * k → Onward k (stub_at w Usual r (fetched stub stub_start r.own.pc)) → StubWordCompletes r
completes w r k at y = word-completes w Usual r k at (fetched stub stub_start r.own.pc) refl y

-- ---- the law of words

-- no word of the stub traps
pub stub_words_complete : StubWordsComplete
stub_words_complete w a ms v z = by_stage (own_side w a ms)
  where
    r : Run
    r = run w ms

    by_stage : OwnSide w (side_of r) → StubWordCompletes r
    by_stage (in_program t site gate s page h f is) = program_stub (sym (ap (λ p. p.view) is) ∙ v)
    by_stage (in_stub t q k b c d page g row most is) =
        placed w (λ r. StubWordCompletes r) r _ is
        (completes w (with_side r _) k refl (onward (word_goes w Usual q t (reached-fits w a t q g.reached) (call-place w a t q g) r k b c d page row)))
    by_stage (at_call t q page g is) = placed w (λ r. StubWordCompletes r) r _ is (record { word = Hcall false; fetched = refl; completes = asks (Hcall false) })
    by_stage (waits t q page g is) = placed w (λ r. StubWordCompletes r) r _ is (record { word = Hcall false; fetched = refl; completes = asks (Hcall false) })
    by_stage (called t q s k page h f y n is) = placed w (λ r. StubWordCompletes r) r _ is (record { word = Hleave; fetched = refl; completes = asks Hleave })
    by_stage (over s e h o) = none_some (sym z ∙ o.ended)

-- ---- an end at the call

-- where a call ends a run, it does so by an exit or a fault, and the own hart stays at its word
record CallEnds (r next : Run) : Type 0 where
  by : (e : RunEnd) → next.end ≡ Some e → (next.own.pc ≡ r.own.pc) × IsExitOrFault e

goes-on : (r next : Run) → next.end ≡ None → CallEnds r next
goes-on r next z = record { by = λ e f. none_some (sym z ∙ f) }

-- an end of this kind
fails : (r next : Run) (e : RunEnd) → next.end ≡ Some e → next.own.pc ≡ r.own.pc → IsExitOrFault e → CallEnds r next
fails r next e f same cause = record { by = λ e' g. (same, subst IsExitOrFault (injective (sym f ∙ g)) cause) }
  where
    injective : {e e' : RunEnd} → Some e ≡ Some e' → e ≡ e'
    injective h = cc

module _ (w : World) (r : Run) (z : r.end ≡ None) where
  look-ends : (x : Answer) (name : List ℕ) → CallEnds r (look_done w x r name)
  look-ends Failed name = fails r _ _ refl refl tt
  look-ends Usual name = goes-on r _ z
  look-ends (Took k) name = goes-on r _ z
  look-ends Lost name = goes-on r _ z

  read-ends : (b : Bool) (d : ℕ) (spot : ReadSpot) (a : ℕ) (g : Gathered) → CallEnds r (read_on b w d spot a g r)
  read-ends true d spot a g = goes-on r _ z
  read-ends false d spot a g = goes-on r _ z

  put-ends : (to_out : Bool) (a n k : ℕ) → CallEnds r (write_done w k to_out a n r)
  put-ends true a n k = goes-on r _ z
  put-ends false a n k = goes-on r _ z

  write-ends : (x : Answer) (to_out : Bool) (a n : ℕ) → CallEnds r (write_step w x r to_out a n)
  write-ends Failed to_out a n = fails r _ _ refl refl tt
  write-ends Usual to_out a n = put-ends to_out a n (taken_in Usual n)
  write-ends (Took k) to_out a n = put-ends to_out a n (taken_in (Took k) n)
  write-ends Lost to_out a n = put-ends to_out a n (taken_in Lost n)

  call-ends : (x : Answer) (c : CallPlan) → CallEnds r (own_call_step w x r c)
  call-ends x (Set files answer) = goes-on r _ z
  call-ends x (Look name) = look-ends x name
  call-ends x (Read d spot a) = let had : Gathered = gather r.cache r.gathered (drop r.gathered (blocks_of spot)) in read-ends had.waits d spot a had
  call-ends x (Write to_out a n) = write-ends x to_out a n
  call-ends x (Exit code) = fails r _ _ refl refl tt

-- ---- in each run

-- where the run has ended in the stub, it did so at the call
record EndsWell (r : Run) : Type 0 where
  by : (e : RunEnd) → r.view ≡ Stub → r.end ≡ Some e → EndsAtCall r e

-- a run that goes on
not-ended : (r : Run) → r.end ≡ None → EndsWell r
not-ended r z = record { by = λ e v f. none_some (sym z ∙ f) }

-- one that isn't in the stub
not-there : (r : Run) → r.view ≡ Program → EndsWell r
not-there r p = record { by = λ e v f. program_stub (sym p ∙ v) }

module _ (w : World) (accepted : Accepted w) where
  -- behind an own move
  own-ends : (x : Answer) (r : Run) → r.end ≡ None → OwnSide w (side_of r) → EndsWell (own_step w x r)
  own-ends x r z (in_program t site gate s page h f is) =
      record {
        by = λ e v g.
            let y : Entered w r (own_step w x r) = own-enters w accepted x r (in_program t site gate s page h f is) (ap (λ p. p.view) is) z v in
            none_some (sym (ap (λ p. p.end) y.side) ∙ g);
      }
  own-ends x r z (in_stub t q k a b c page g row most is) =
      placed w (λ r. EndsWell (own_step w x r)) r _ is
      (not-ended _ (onward (word_goes w x q t (reached-fits w accepted t q g.reached) (call-place w accepted t q g) r k a b c page row)).goes)
  own-ends x r z (at_call t q page g is) =
      placed w (λ r. EndsWell (own_step w x r)) r _ is
      (record { by = λ e v f. let y = (call-ends w (with_side r (stub_side q t 26 q.registers page)) refl x (plan w q)).by e f in record { word = y.0; cause = y.1 } })
  own-ends x r z (waits t q page g is) = placed w (λ r. EndsWell (own_step w x r)) r _ is (not-ended _ refl)
  own-ends x r z (called t q s k page h f y n is) = placed w (λ r. EndsWell (own_step w x r)) r _ is (not-there _ refl)
  own-ends x r z (over s e h o) = none_some (sym z ∙ o.ended)

  -- behind a fetch: where a block is demanded, the own hart waits at the call
  waits-at : (r : Run) → r.end ≡ None → OwnSide w (side_of r) → r.stalled ≡ true → r.own.pc ≡ 0x417F_FFFC + 4 * 26
  waits-at r z (in_program t site gate s page h f is) e = false_true (sym (ap (λ p. p.stalled) is) ∙ e)
  waits-at r z (in_stub t q k a b c page g row most is) e = false_true (sym (ap (λ p. p.stalled) is) ∙ e)
  waits-at r z (at_call t q page g is) e = false_true (sym (ap (λ p. p.stalled) is) ∙ e)
  waits-at r z (waits t q page g is) e = ap (λ p. p.own.pc) is
  waits-at r z (called t q s k page h f y n is) e = false_true (sym (ap (λ p. p.stalled) is) ∙ e)
  waits-at r z (over s e h o) f = none_some (sym z ∙ o.ended)

  landed-ends : (o : Option BlockSpot) (r : Run) (notes : List Note) → r.end ≡ None → EndsWell (landed_with o r notes)
  landed-ends (Some b) r notes z = not-ended _ z
  landed-ends None r notes z = not-ended _ z

  failed-ends : (o : Option BlockSpot) (r : Run) (spot : BlockSpot) → (is_some o ≡ true → r.own.pc ≡ 0x417F_FFFC + 4 * 26) → r.end ≡ None → EndsWell (fetch_failed o r spot)
  failed-ends (Some b) r spot at z =
      record { by = λ e v f. record { word = at refl; cause = subst IsExitOrFault (injective f) tt } }
    where
      injective : {e e' : RunEnd} → Some e ≡ Some e' → e ≡ e'
      injective h = cc
  failed-ends None r spot at z = not-ended _ z

  fetch-ends : (x : Answer) (r : Run) (spot : BlockSpot) → (is_some r.cache.demanded ≡ true → r.own.pc ≡ 0x417F_FFFC + 4 * 26) → r.end ≡ None → EndsWell (fetch_ends w x r spot)
  fetch-ends Failed r spot at z = failed-ends r.cache.demanded r spot at z
  fetch-ends Lost r spot at z = landed-ends r.cache.demanded r _ z
  fetch-ends Usual r spot at z = not-ended _ (landed-goes r.cache.demanded r _ z)
    where
      landed-goes : (o : Option BlockSpot) (r : Run) (notes : List Note) → r.end ≡ None → (landed_with o r notes).end ≡ None
      landed-goes (Some b) r notes z = z
      landed-goes None r notes z = z
  fetch-ends (Took k) r spot at z = not-ended _ (landed-goes r.cache.demanded r _ z)
    where
      landed-goes : (o : Option BlockSpot) (r : Run) (notes : List Note) → r.end ≡ None → (landed_with o r notes).end ≡ None
      landed-goes (Some b) r notes z = z
      landed-goes None r notes z = z

  flight-ends : (o : Option BlockSpot) (x : Answer) (r : Run) → (is_some r.cache.demanded ≡ true → r.own.pc ≡ 0x417F_FFFC + 4 * 26) → r.end ≡ None → EndsWell (fetch_of o w x r)
  flight-ends None x r at z = not-ended _ z
  flight-ends (Some spot) x r at z = fetch-ends x r spot at z

  -- behind each move
  move-ends : (m : Move) (x : Answer) (r : Run) (e : Option RunEnd) → r.end ≡ e → Keeps w accepted r → EndsWell r → EndsWell (step_unless e w r (m, x))
  move-ends m x r (Some e) z k h = record { by = λ e v f. let y : EndsAtCall r e = h.by e v f in record { word = y.word; cause = y.cause } }
  move-ends O x r None z k h = own-ends x (begun r) z k.side
  move-ends D x r None z k h = flight-ends (in_flight r.cache) x (begun r) (λ d. waits-at r z k.side ((k.demand z).same ∙ d)) z
  move-ends S x r None z k h = subst (λ e. EndsWell (step_unless e w r (S, x))) z (not-ended _ (ap (λ (k : Kept). k.side.end) (shadow_move-keeps w r S x tt) ∙ z))
  move-ends T x r None z k h = subst (λ e. EndsWell (step_unless e w r (T, x))) z (not-ended _ (ap (λ (k : Kept). k.side.end) (shadow_move-keeps w r T x tt) ∙ z))

  all-ends : (ms : Moves) (r : Run) → Keeps w accepted r → EndsWell r → EndsWell (run_from w r ms)
  unfolding run_from
  all-ends [] r k h = h
  all-ends (m ∷ ms) r k h = all-ends ms (step w r m) (keeps w accepted r m.0 m.1 k) (move-ends m.0 m.1 r r.end refl k h)

-- ---- the law of ends

-- a run that ends in the stub ends at its call
pub stub_ends_at_call : StubEndsAtCall
stub_ends_at_call w a ms e v f = (all-ends w a ms (opened_run w) (start-keeps w a) (not-ended (opened_run w) refl)).by e v f
