-- What a move brings: an instruction is completed, the run ends, fewer own moves are left; or the own side is left as it is.
use Rattle.std.proofs.Common.{◌≡◌, ℕ, ◌+◌, ◌-◌, ◌*◌, ◌≤◌, ◌<◌, Bool, true, false, List, [], ◌∷◌, length, drop, Option, Some, None, refl, ◌∙◌, ap, sym, subst, arith, is_some, length-drop}
use Rattle.std.specs.Option.{option_map}
use Rattle.spec_base.specs.declared.machine.View.TheVariants.{Plain}
use Rattle.spec_base.specs.declared.note.Note.{Note}
use Rattle.spec_base.specs.declared.note.Note.TheVariants as note
use Rattle.spec_base.specs.declared.note.Move.{Move}
use Rattle.spec_base.specs.declared.note.Move.TheVariants.{O, S, T, D}
use Rattle.spec_base.specs.declared.spot.BlockSpot.{BlockSpot}
use Rattle.spec_base.specs.declared.spot.ReadSpot.{ReadSpot}
use Rattle.rv_decode.specs.declared.instr.Instr.{Instr}
use Rattle.rv_model.specs.Memory.{Memory}
use Rattle.rv_model.specs.Registers.{Registers}
use Rattle.rv_model.specs.Rights.{data_rights}
use Rattle.rv_model.specs.Effect.{Effect, Next, Stored, Trapped, Called, Gated, effect, fetched}
use Rattle.program_model.specs.Calls.{CallPlan, Set, Look, Read, Write, Exit}
use Rattle.program_model.specs.Cache.{Cache, Gathered, gather, blocks_of, in_flight, flight_of, landed_from}
use Rattle.program_model.specs.PlainRun.{State, text_of}
use Rattle.code_model.specs.Patch.{patched_instr}
use Rattle.run_model.specs.Run.{World, Run, Answer, Usual, Took, Failed, Lost}
use Rattle.run_model.specs.OwnMoves.{entered, program_after, program_at, program_step, own_call_step, read_on, look_done, write_step, write_done, own_step, own_unless}
use Rattle.run_model.specs.Moves.{step, step_unless, begun, fetch_step, fetch_of, fetch_ends, fetch_failed, landed_with, cached_too}
use Rattle.run_laws.specs.OwnLaws.{Accepted}
use Rattle.code_model.proofs.Alike.{gated, effect-patched, fetched-map}
use Rattle.own_laws.proofs.Demand.{rank, rank-stub, rank-program, call_rank, call_rank-most, Demand, calm, GatherOf, gather-of, few_blocks, Small, plan-small}
use Rattle.own_laws.proofs.InvisibleShadow.{shadow_move-keeps}
use Rattle.own_laws.proofs.OwnSide.{OwnSide, call-place, in_program, in_stub, at_call, waits, called, over, plan, program_side, called_side, placed}
use Rattle.own_laws.proofs.Reached.{reached-fits, none_some, false_true}
use Rattle.own_laws.proofs.Side.{side_of, with_side, Tally, Kept}
use Rattle.own_laws.proofs.StubWords.{three, stub_side, restarted_tally}
use Rattle.own_laws.proofs.StubRows.{left, WordGoes, to_row, to_restarted, to_call, word_goes}

-- an instruction is completed, the run ends, or fewer own moves are left
pub data Gets (r r' : Run) : Type 0 where
  done : r'.own_done ≡ r.own_done + 1 → Demand r' → Gets r r'
  ends : is_some r'.end ≡ true → Gets r r'
  lower : r'.own_done ≡ r.own_done → rank (side_of r') < rank (side_of r) → Demand r' → Gets r r'

module _ (w : World) (x : Answer) where
  -- ---- a word of the program

  module _ (base : Run) (t : Tally) (site : ℕ) (gate s : State) (page : Memory) where
    abbrev here : Run
    here = with_side base (program_side s site gate page t)

    -- the stub's words are fewer than those left in the program
    gate-gets : Demand here → Gets here (entered here)
    gate-gets d =
        let e : rank (side_of (entered here)) ≡ left 1 + call_rank false t.gathered = rank-stub s s (record t { asked = false }) false 1 s.registers page in
        lower refl (omega (arith, e, rank-program (side_of here) refl, call_rank-most false t.gathered)) (record { same = d.same; room = d.room })

    -- each effect of an instruction gets on
    after_effect-gets : (e : Effect) → Demand here → Gets here (program_after here (gated e))
    after_effect-gets (Next rs pc) d = done refl (record { same = d.same; room = d.room })
    after_effect-gets (Stored a width v) d = done refl (record { same = d.same; room = d.room })
    after_effect-gets (Trapped cause) d = ends refl
    after_effect-gets Called d = gate-gets d
    after_effect-gets (Gated i) d = gate-gets d

    -- each word of the program does
    word-gets : (o : Option Instr) → Demand here → Gets here (program_at w here (option_map patched_instr o))
    word-gets None d = ends refl
    word-gets (Some i) d =
        subst (λ e. Gets here (program_after here e)) (sym (effect-patched (data_rights w.image.layout) s.memory s.registers s.pc i))
        (after_effect-gets (effect Plain (data_rights w.image.layout) s.memory s.registers s.pc i) d)

    -- each own move in the program does
    program-gets : Demand here → Gets here (program_step w here)
    program-gets d =
        subst (λ o. Gets here (program_at w here o)) (sym (fetched-map patched_instr (text_of w.image) w.image.layout.text_start s.pc))
        (word-gets (fetched (text_of w.image) w.image.layout.text_start s.pc) d)

  -- ---- the call

  module _ (base : Run) (t : Tally) (q : State) (page : Memory) where
    -- the run at the call
    abbrev the_call : Run
    the_call = with_side base (stub_side q t 26 q.registers page)

    -- a read gets on: it has its blocks, or waits for one with more of them than before
    read-gets : (b : Bool) (d : ℕ) (spot : ReadSpot) (a : ℕ) (had : Gathered) → had.waits ≡ b → spot.count ≤ 65536 → Demand the_call
        → GatherOf base.cache t.gathered (length (drop t.gathered (blocks_of spot))) had → Gets the_call (read_on b w d spot a had the_call)
    read-gets true d spot a had e small m g =
        let y = g.waiting e in
        let few : had.had < 17 = omega (arith, g.more, y.1, few_blocks spot small, length-drop t.gathered (blocks_of spot)) in
        let now : rank (side_of the_call) ≡ left 26 + call_rank false t.gathered = rank-stub q q t false 26 q.registers page in
        let later : rank (side_of (read_on true w d spot a had the_call)) ≡ left 26 + call_rank true had.had =
        rank-stub q q (record t { gathered = had.had }) true 26 q.registers page in
        lower refl (omega (arith, g.more, few, now, later)) (record { same = sym y.0; room = λ z. few })
    read-gets false d spot a had e small m g = done refl (calm _ refl (ap is_some (g.here e) ∙ sym m.same))

    -- a look gets on
    look-gets : (x : Answer) (name : List ℕ) → Demand the_call → Gets the_call (look_done w x the_call name)
    look-gets Failed name d = ends refl
    look-gets Usual name d = done refl (calm _ refl (sym d.same))
    look-gets (Took k) name d = done refl (calm _ refl (sym d.same))
    look-gets Lost name d = done refl (calm _ refl (sym d.same))

    -- a put gets on
    put-gets : (to_out : Bool) (a n k : ℕ) → Demand the_call → Gets the_call (write_done w k to_out a n the_call)
    put-gets true a n k d = done refl (calm _ refl (sym d.same))
    put-gets false a n k d = done refl (calm _ refl (sym d.same))

    -- a write gets on
    write-gets : (x : Answer) (to_out : Bool) (a n : ℕ) → Demand the_call → Gets the_call (write_step w x the_call to_out a n)
    write-gets Failed to_out a n d = ends refl
    write-gets Usual to_out a n d = put-gets to_out a n _ d
    write-gets (Took k) to_out a n d = put-gets to_out a n _ d
    write-gets Lost to_out a n d = put-gets to_out a n _ d

    -- each call gets on
    call-gets : (c : CallPlan) → Small c → Demand the_call → Gets the_call (own_call_step w x the_call c)
    call-gets (Set files answer) small d = done refl (calm _ refl (sym d.same))
    call-gets (Look name) small d = look-gets x name d
    call-gets (Read e spot a) small d =
        let had : Gathered = gather base.cache t.gathered (drop t.gathered (blocks_of spot)) in
        read-gets had.waits e spot a had refl small.by d (gather-of base.cache t.gathered (drop t.gathered (blocks_of spot)))
    call-gets (Write to_out a n) small d = write-gets x to_out a n d
    call-gets (Exit code) small d = ends refl

  -- ---- a word of the stub

  -- each word of the stub leaves fewer words
  lowers : (r next : Run) (q : State) (t t' : Tally) (k l : ℕ) (rs rs' : Registers) (page page' : Memory)
      → side_of r ≡ stub_side q t k rs page → side_of next ≡ stub_side q t' l rs' page' → t'.done ≡ t.done → t'.gathered ≡ t.gathered → left l < left k
      → is_some r.cache.demanded ≡ false → next.cache ≡ r.cache → Gets r next
  lowers r next q t t' k l rs rs' page page' e is n had less f same =
      let now : rank (side_of r) ≡ left k + call_rank false t.gathered = ap rank e ∙ rank-stub q q t false k rs page in
      let later : rank (side_of next) ≡ left l + call_rank false t'.gathered = ap rank is ∙ rank-stub q q t' false l rs' page' in
      lower (ap (λ p. p.tally.done) is ∙ n ∙ sym (ap (λ p. p.tally.done) e)) (omega (arith, less, now, later, ap (call_rank false) had))
      (calm next (ap (λ p. p.stalled) is) (ap (λ (c : Cache). is_some c.demanded) same ∙ f))

  word-lowers : (r next : Run) (q : State) (t : Tally) (k : ℕ) (rs : Registers) (page : Memory) → side_of r ≡ stub_side q t k rs page
      → is_some r.cache.demanded ≡ false → WordGoes q t k r.cache r.shared r.shadow.state next → Gets r next
  word-lowers r next q t k rs page e f (to_row l x29 x30 x31 page' row is less same held) = lowers r next q t t k l rs _ page page' e is refl refl less f same
  word-lowers r next q t k rs page e f (to_restarted c page' s is less same full left runs) =
      lowers r next q t (restarted_tally q t) k 71 rs _ page page' e is refl refl less f same
  word-lowers r next q t k rs page e f (to_call page' is less same left f' goes) = lowers r next q t t k 26 rs _ page page' e is refl refl less f same

  -- ---- an own move

  module _ (accepted : Accepted w) where
    -- each own move of a hart that isn't stalled gets on
    own-gets : (r : Run) → OwnSide w (side_of r) → Demand r → r.stalled ≡ false → r.end ≡ None → Gets r (own_step w x r)
    own-gets r (in_program t site gate s page h f is) d n z = placed w (λ r. Demand r → Gets r (own_step w x r)) r _ is (program-gets r t site gate s page) d
    own-gets r (in_stub t q k a b c page g row most is) d n z =
        placed w (λ r. Demand r → Gets r (own_step w x r)) r _ is
        (λ d. word-lowers _ _ q t k (three q.registers a b c) page refl (sym d.same) (word_goes w x q t (reached-fits w accepted t q g.reached) (call-place w accepted t q g) r k a b c page row)) d
    own-gets r (at_call t q page g is) d n z = placed w (λ r. Demand r → Gets r (own_step w x r)) r _ is (call-gets r t q page (plan w q) (plan-small w q)) d
    own-gets r (waits t q page g is) d n z = false_true (sym n ∙ ap (λ p. p.stalled) is)
    own-gets r (called t q s k page h f y p is) d n z =
        placed w (λ r. Demand r → Gets r (own_step w x r)) r _ is
        (λ d. let back : Run = own_step w x (with_side r (called_side q s t page)) in
        lower refl (omega (arith, rank-stub q s t false 27 s.registers page, rank-program (side_of back) refl)) (record { same = d.same; room = d.room })) d
    own-gets r (over s e h o) d n z = none_some (sym z ∙ o.ended)

  -- ---- the fetch of the demanded block

  -- a stalled run waits at the call
  waiting : (r : Run) → OwnSide w (side_of r) → r.stalled ≡ true → r.end ≡ None
      → (rank (side_of r) ≡ 2 * (17 - r.gathered)) × (rank (record (side_of r) { stalled = false; tally = record (side_of r).tally { gathered = r.gathered + 1 } }) ≡ 2 * (17 - (r.gathered + 1)) + 1)
  waiting r (in_program t site gate s page h f is) n z = false_true (sym (ap (λ p. p.stalled) is) ∙ n)
  waiting r (in_stub t q k a b c page g row most is) n z = false_true (sym (ap (λ p. p.stalled) is) ∙ n)
  waiting r (at_call t q page g is) n z = false_true (sym (ap (λ p. p.stalled) is) ∙ n)
  waiting r (called t q s k page h f y p is) n z = false_true (sym (ap (λ p. p.stalled) is) ∙ n)
  waiting r (over s e h o) n z = none_some (sym z ∙ o.ended)
  waiting r (waits t q page g is) n z =
      let had : r.gathered ≡ t.gathered = ap (λ p. p.tally.gathered) is in
      let now : rank (side_of r) ≡ left 26 + call_rank true t.gathered = ap rank is ∙ rank-stub q q t true 26 q.registers page in
      let later : rank (record (side_of r) { stalled = false; tally = record (side_of r).tally { gathered = r.gathered + 1 } }) ≡ left 26 + call_rank false (t.gathered + 1) =
      ap (λ p. rank (record p { stalled = false; tally = record p.tally { gathered = p.tally.gathered + 1 } })) is
      ∙ rank-stub q q (record t { gathered = t.gathered + 1 }) false 26 q.registers page in
      (omega (arith, now, had), omega (arith, later, had))

  -- once the demanded block has landed none is demanded
  landed_from-none : (o : Option BlockSpot) (c : Cache) → c.demanded ≡ o → is_some o ≡ true → is_some (landed_from o c).demanded ≡ false
  landed_from-none (Some b) c e f = refl
  landed_from-none None c e f = false_true f

  -- a demanded block is in flight
  flight_of-demanded : (o : Option BlockSpot) (queue : List BlockSpot) → is_some o ≡ true → is_some (flight_of o queue) ≡ true
  flight_of-demanded (Some b) queue e = refl
  flight_of-demanded None queue e = false_true e

  -- the landing of the demanded block gets on
  landed-gets : (o : Option BlockSpot) (r : Run) (notes : List Note)
      → r.cache.demanded ≡ o → is_some o ≡ true → OwnSide w (side_of r) → Demand r → r.stalled ≡ true → r.end ≡ None → Gets r (landed_with o r notes)
  landed-gets None r notes p f h d n z = false_true f
  landed-gets (Some b) r notes p f h d n z =
      let y = waiting r h n z in
      lower refl (omega (arith, y.0, y.1, d.room n)) (calm _ refl (landed_from-none r.cache.demanded r.cache refl (ap is_some p)))

  -- so it does where the block is kept
  cached_too-gets : (r next : Run) (spot : BlockSpot) → Gets r next → Gets r (cached_too next spot)
  cached_too-gets r next spot (done e d) = done e (record { same = d.same; room = d.room })
  cached_too-gets r next spot (ends e) = ends e
  cached_too-gets r next spot (lower e l d) = lower e l (record { same = d.same; room = d.room })

  -- its failure ends the run
  failed-gets : (o : Option BlockSpot) (r : Run) (spot : BlockSpot) → is_some o ≡ true → Gets r (fetch_failed o r spot)
  failed-gets (Some b) r spot f = ends refl
  failed-gets None r spot f = false_true f

  -- the end of its fetch gets on, whatever is answered
  ends-gets : (x : Answer) (r : Run) (spot : BlockSpot) → OwnSide w (side_of r) → Demand r → r.stalled ≡ true → r.end ≡ None → Gets r (fetch_ends w x r spot)
  ends-gets Failed r spot h d n z = failed-gets r.cache.demanded r spot (sym d.same ∙ n)
  ends-gets Lost r spot h d n z = landed-gets r.cache.demanded r _ refl (sym d.same ∙ n) h d n z
  ends-gets Usual r spot h d n z = cached_too-gets r _ spot (landed-gets r.cache.demanded r _ refl (sym d.same ∙ n) h d n z)
  ends-gets (Took k) r spot h d n z = cached_too-gets r _ spot (landed-gets r.cache.demanded r _ refl (sym d.same ∙ n) h d n z)

  -- each fetch of a stalled hart gets on
  fetch-gets : (o : Option BlockSpot) (r : Run) → is_some o ≡ true → OwnSide w (side_of r) → Demand r → r.stalled ≡ true → r.end ≡ None → Gets r (fetch_of o w x r)
  fetch-gets None r f h d n z = false_true f
  fetch-gets (Some spot) r f h d n z = ends-gets x r spot h d n z

  -- ---- a fetch while nothing is demanded

  -- the own side is left, and nothing is demanded
  abbrev Quiet : Run → Run → Type 0
  Quiet r r' = (side_of r' ≡ side_of r) × (is_some r'.cache.demanded ≡ false)

  -- where nothing is demanded, nothing is after a landing
  landed_from-calm : (o : Option BlockSpot) (c : Cache) → is_some c.demanded ≡ false → is_some (landed_from o c).demanded ≡ false
  landed_from-calm (Some b) c f = refl
  landed_from-calm None c f = f

  -- a landing is quiet
  landed-quiet : (o : Option BlockSpot) (r : Run) (notes : List Note) → is_some o ≡ false → is_some r.cache.demanded ≡ false → Quiet r (landed_with o r notes)
  landed-quiet (Some b) r notes e f = false_true (sym e)
  landed-quiet None r notes e f = (refl, landed_from-calm r.cache.demanded r.cache f)

  -- so is the failure of a queued fetch
  failed-quiet : (o : Option BlockSpot) (r : Run) (spot : BlockSpot) → is_some o ≡ false → is_some r.cache.demanded ≡ false → Quiet r (fetch_failed o r spot)
  failed-quiet (Some b) r spot e f = false_true (sym e)
  failed-quiet None r spot e f = (refl, landed_from-calm r.cache.demanded r.cache f)

  -- so is each end of a queued fetch
  ends-quiet : (x : Answer) (r : Run) (spot : BlockSpot) → is_some r.cache.demanded ≡ false → Quiet r (fetch_ends w x r spot)
  ends-quiet Failed r spot f = failed-quiet r.cache.demanded r spot f f
  ends-quiet Lost r spot f = landed-quiet r.cache.demanded r _ f f
  ends-quiet Usual r spot f = landed-quiet r.cache.demanded r (note.Fetch spot ∷ []) f f
  ends-quiet (Took k) r spot f = landed-quiet r.cache.demanded r (note.Fetch spot ∷ []) f f

  -- so is each fetch
  fetch-quiet : (o : Option BlockSpot) (r : Run) → is_some r.cache.demanded ≡ false → Quiet r (fetch_of o w x r)
  fetch-quiet None r f = (refl, f)
  fetch-quiet (Some spot) r f = ends-quiet x r spot f

-- ---- each move

-- a move gets on, or is idle: then, if it is an own move, the hart is stalled, and if it is a fetch, it isn't
pub data Moved (r r' : Run) (m : Move) : Type 0 where
  gets : Gets r r' → Moved r r' m
  idle : side_of r' ≡ side_of r → Demand r' → (m ≡ O → r.stalled ≡ true) → (m ≡ D → r.stalled ≡ false) → Moved r r' m

module _ (w : World) (accepted : Accepted w) where
  -- an own move gets on, or finds the hart stalled
  own-moved : (b : Bool) (x : Answer) (r : Run) → r.stalled ≡ b → OwnSide w (side_of r) → Demand r → r.end ≡ None → Moved r (own_unless b w x r) O
  own-moved true x r n h d z = idle refl d (λ e. n) (λ e. absurd (no e))
    where
      no : O ≡ D → ⊥
      no e = cc
  own-moved false x r n h d z = gets (subst (λ b. Gets r (own_unless b w x r)) n (own-gets w x accepted r h d n z))

  -- a fetch gets on where the hart is stalled, and is idle else
  fetch-moved : (b : Bool) (x : Answer) (r : Run) → r.stalled ≡ b → OwnSide w (side_of r) → Demand r → r.end ≡ None → Moved r (fetch_step w x r) D
  fetch-moved true x r n h d z = gets (fetch-gets w x (in_flight r.cache) r (flight_of-demanded w x r.cache.demanded r.cache.queue (sym d.same ∙ n)) h d n z)
  fetch-moved false x r n h d z =
      let y = fetch-quiet w x (in_flight r.cache) r (sym d.same ∙ n) in
      idle y.0 (calm _ (ap (λ p. p.stalled) y.0 ∙ n) y.1) (λ e. absurd (no e)) (λ e. n)
    where
      no : D ≡ O → ⊥
      no e = cc

  -- a move that keeps the own side and the demanded block keeps what is demanded
  demand-kept : (r r' : Run) → Demand r → side_of r' ≡ side_of r → r'.cache.demanded ≡ r.cache.demanded → Demand r'
  demand-kept r r' d e f =
      record {
        same = ap (λ p. p.stalled) e ∙ d.same ∙ ap is_some (sym f);
        room = λ t. subst (λ n. n < 17) (sym (ap (λ p. p.tally.gathered) e)) (d.room (sym (ap (λ p. p.stalled) e) ∙ t));
      }

  -- the same, seen from the run before the move begins
  from_begun : (r r' : Run) (m : Move) → Moved (begun r) r' m → Moved r r' m
  from_begun r r' m (gets (done e d)) = gets (done e d)
  from_begun r r' m (gets (ends e)) = gets (ends e)
  from_begun r r' m (gets (lower e l d)) = gets (lower e l d)
  from_begun r r' m (idle e d a b) = idle e d a b

  -- each move of a run that goes on gets on or is idle
  pub move-moved : (r : Run) (m : Move) (x : Answer) → OwnSide w (side_of r) → Demand r → r.end ≡ None → Moved r (step w r (m, x)) m
  move-moved r O x h d z =
      subst (λ e. Moved r (step_unless e w r (O, x)) O) (sym z)
      (from_begun r _ O (own-moved r.stalled x (begun r) refl h (record { same = d.same; room = d.room }) z))
  move-moved r D x h d z =
      subst (λ e. Moved r (step_unless e w r (D, x)) D) (sym z)
      (from_begun r _ D (fetch-moved r.stalled x (begun r) refl h (record { same = d.same; room = d.room }) z))
  move-moved r S x h d z =
      let k = shadow_move-keeps w r S x tt in
      idle (ap (λ (k : Kept). k.side) k) (demand-kept r _ d (ap (λ (k : Kept). k.side) k) (ap (λ (k : Kept). k.demanded) k)) (λ e. absurd (no e)) (λ e. absurd (no' e))
    where
      no : S ≡ O → ⊥
      no e = cc

      no' : S ≡ D → ⊥
      no' e = cc
  move-moved r T x h d z =
      let k = shadow_move-keeps w r T x tt in
      idle (ap (λ (k : Kept). k.side) k) (demand-kept r _ d (ap (λ (k : Kept). k.side) k) (ap (λ (k : Kept). k.demanded) k)) (λ e. absurd (no e)) (λ e. absurd (no' e))
    where
      no : T ≡ O → ⊥
      no e = cc

      no' : T ≡ D → ⊥
      no' e = cc
