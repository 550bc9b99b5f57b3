-- How far the plain program is: after as many instructions as the own hart has completed, and in the run from the restart after as many as since then.
use Rattle.std.proofs.Common.{◌≡◌, ℕ, zero, suc, ◌+◌, ◌^◌, ◌<◌, Bool, true, false, not, ◌&&◌, ◌||◌, List, [], ◌∷◌, ◌++◌, length, ◌==◌, Some, None, refl, ◌∙◌, ap, sym, add-one, is_some, eqb→eq, subst}
use Rattle.std.specs.Prelude.{slice_get, unwrap_or}
use Rattle.std.specs.Option.{option_and_then}
use Rattle.program_model.specs.PlainRun.{State, Taken, Step, Went, next, next_state, next_unless, completed, state_after, plain_state, all_taken, end_of, end_of_step, end_unless, plan_of}
use Rattle.rv_model.specs.Memory.{Memory, bytes_at}
use Rattle.run_model.specs.Run.{World}
use Rattle.run_laws.specs.OwnLaws.{Accepted, counts_of}
use Rattle.spec_base.specs.Layout.{image_limit}
use Rattle.program_model.specs.Calls.{key_of}
use Rattle.run_laws.specs.Numbers.{Lawful}
use Rattle.own_laws.proofs.Offsets.{start-lawful, key-small}
use Rattle.own_laws.proofs.Bounds.{Sized, reached-sized, plan-fits}
use Rattle.own_laws.proofs.Side.{Tally}

-- ---- counts that puts have taken

-- these counts are what the puts took; where the list of counts has ended, all
pub record Fixes (counts : List ℕ) (puts : List (ℕ × ℕ)) : Type 0 where
  pub by : (i : ℕ) (p : ℕ × ℕ) → slice_get puts i ≡ Some p → unwrap_or (slice_get counts i) p.0 ≡ p.1

-- the puts of a state took what these lists say
abbrev pub Agrees : Taken → State → Type 0
Agrees t s = Fixes t.out s.out.puts × Fixes t.err s.err.puts

-- nothing isn't something
pub none_some : {X A : Type 0} {x : X} → None ≡ Some x → A
none_some {X} {A} {x} e = absurd (no e)
  where
    no : None ≡ Some x → ⊥
    no e = cc

-- false isn't true
pub false_true : {A : Type 0} → false ≡ true → A
false_true {A} e = absurd (no e)
  where
    no : false ≡ true → ⊥
    no e = cc

-- what stands before the last item
slice_get-before : {X : Type 0} (xs : List X) (p x : X) (i : ℕ) → slice_get xs i ≡ Some x → slice_get (xs ++ p ∷ []) i ≡ Some x
slice_get-before [] p x i e = none_some e
slice_get-before (y ∷ xs) p x zero e = e
slice_get-before (y ∷ xs) p x (suc i) e = slice_get-before xs p x i e

-- the last item
slice_get-last : {X : Type 0} (xs : List X) (p : X) → slice_get (xs ++ p ∷ []) (length xs) ≡ Some p
slice_get-last [] p = refl
slice_get-last (y ∷ xs) p = slice_get-last xs p

-- counts that fix one more put fix those before it, and say what it took
pub Fixes-last : (counts : List ℕ) (puts : List (ℕ × ℕ)) (p : ℕ × ℕ) → Fixes counts (puts ++ p ∷ []) → Fixes counts puts × (unwrap_or (slice_get counts (length puts)) p.0 ≡ p.1)
Fixes-last counts puts p h = (record { by = λ i x e. h.by i x (slice_get-before puts p x i e) }, h.by (length puts) p (slice_get-last puts p))

-- the counts of puts fix them
pub Fixes-counts_of : (puts : List (ℕ × ℕ)) → Fixes (counts_of puts) puts
Fixes-counts_of puts = record { by = at puts }
  where
    at : (puts : List (ℕ × ℕ)) (i : ℕ) (p : ℕ × ℕ) → slice_get puts i ≡ Some p → unwrap_or (slice_get (counts_of puts) i) p.0 ≡ p.1
    at [] i p e = none_some e
    at (y ∷ puts) zero p e = cc e
    at (y ∷ puts) (suc i) p e = at puts i p e

-- n bytes are n
pub length-bytes_at : (m : Memory) (a n : ℕ) → length (bytes_at m a n) ≡ n
unfolding bytes_at
length-bytes_at m a zero = refl
length-bytes_at m a (suc n) = ap suc (length-bytes_at m (a + 1) n)

-- ---- the state that the plain program has reached

-- with the counts of a run: as many instructions complete and lead to the state, whatever list says what its puts took; and since a restart, while each put was whole, as many lead to it from where that was made
pub record Reached (w : World) (t : Tally) (s : State) : Type 0 where
  pub plain : (taken : Taken) → Agrees taken s → plain_state w.image w.files taken t.done ≡ Some s
  pub since : (o : State) → t.origin ≡ Some o → t.whole ≡ true → state_after w.image w.files all_taken o t.own ≡ Some s
  pub began : is_some t.origin ≡ not (t.restarts == 0)

-- the counts once an instruction is completed
abbrev pub completed_tally : Bool → ℕ → Tally → Tally
completed_tally whole gathered t = record t { done = t.done + 1; own = t.own + 1; whole = whole; gathered = gathered }

-- the next instruction leads from a state to another, and its put was whole where that is said
pub record LeadsTo (w : World) (t : Tally) (whole : Bool) (s s' : State) : Type 0 where
  pub plain : (taken : Taken) → Agrees taken s' → Agrees taken s × (next w.image w.files taken s ≡ Went s')
  pub since : (o : State) → t.origin ≡ Some o → whole ≡ true → (t.whole ≡ true) × (next w.image w.files all_taken s ≡ Went s')

module _ (w : World) where
  -- one more instruction is one step
  state_after-more : (taken : Taken) (start s s' : State) (n : ℕ) → state_after w.image w.files taken start n ≡ Some s → s.exited ≡ None
      → next w.image w.files taken s ≡ Went s' → state_after w.image w.files taken start (n + 1) ≡ Some s'
  unfolding state_after
  state_after-more taken start s s' n e f g =
      rw (add-one n)
      (ap (option_and_then (next_state w.image w.files taken)) e ∙ ap (λ exited. next_unless exited w.image w.files taken s) f ∙ ap completed g)

  -- one more instruction reaches the next state
  pub reached-more : (t : Tally) (whole : Bool) (gathered : ℕ) (s s' : State) → Reached w t s → s.exited ≡ None → LeadsTo w t whole s s' → Reached w (completed_tally whole gathered t) s'
  reached-more t whole gathered s s' h f l =
      record {
        plain = λ taken a. let y = l.plain taken a in state_after-more taken w.image.start s s' t.done (h.plain taken y.0) f y.1;
        since = λ o e whole. let y = l.since o e whole in state_after-more all_taken o s s' t.own (h.since o e y.0) f y.1;
        began = h.began;
      }

  -- the reached state doesn't depend on the blocks of a read, nor on who asked
  pub reached-with : (t : Tally) (gathered : ℕ) (asked : Bool) (s : State) → Reached w t s → Reached w (record t { gathered = gathered; asked = asked }) s
  reached-with t gathered asked s h = record { plain = h.plain; since = h.since; began = h.began }

  -- how a program ends in a state that it hasn't exited in
  pub end_of-step : (taken : Taken) (s : State) (step : Step) → s.exited ≡ None → next w.image w.files taken s ≡ step → end_of w.image w.files taken s ≡ end_of_step step s.pc
  end_of-step taken s step f g = ap (λ exited. end_unless exited w.image w.files taken s) f ∙ ap (λ z. end_of_step z s.pc) g

  -- a reached state is sized
  reached-small : Accepted w → (t : Tally) (s : State) → Reached w t s → Sized s
  reached-small a t s h =
      let taken : Taken = record { out = counts_of s.out.puts; err = counts_of s.err.puts } in
      let start : Lawful w.image.start.files = subst (λ f. Lawful f) (sym a.descriptors.1) (start-lawful a.descriptors.0 (image_limit w.image.layout.version)) in
      reached-sized w.files a.files w.image taken w.image.start s t.done (record { registers = a.registers; memory = a.memory; files = start })
      (h.plain taken (Fixes-counts_of s.out.puts, Fixes-counts_of s.err.puts))

  -- so its registers are below 2^64
  pub reached-fits : Accepted w → (t : Tally) (s : State) → Reached w t s → (i : ℕ) → s.registers i < 2 ^ 64
  reached-fits a t s h = (reached-small a t s h).registers

  -- and so is the key of its call
  pub reached-key : Accepted w → (t : Tally) (s : State) → Reached w t s → key_of (plan_of w.image.layout s) < 2 ^ 64
  reached-key a t s h =
      let z : Lawful s.files = (reached-small a t s h).files in
      key-small s.files z (plan_of w.image.layout s) (plan-fits w.image.layout s z)

-- ---- a put

-- what is known of a put that took k of n bytes
pub whole_put : (whole started : Bool) (k n : ℕ) → (whole && ((k == n) || started)) ≡ true → started ≡ false → (whole ≡ true) × (k ≡ n)
whole_put true false k n e f = (refl, by_test (k == n) refl e)
  where
    by_test : (b : Bool) → (k == n) ≡ b → (b || false) ≡ true → k ≡ n
    by_test true g h = eqb→eq k n (rw g tt)
    by_test false g h = false_true h
whole_put true true k n e f = false_true (sym f)
whole_put false started k n e f = false_true e
