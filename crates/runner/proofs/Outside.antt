-- What the outside heard in a move.
use Rattle.std.proofs.Common.{◌≡◌, ℕ, ◌<◌, ◌≤◌, Bool, true, false, ◌∷◌, [], List, length, max, min, inl, inr, refl, sym, ap, subst, arith}
use Rattle.std.proofs.lemmas.List.Elements.{All-nil}
use Rattle.spec_base.specs.Files.{Name, Files}
use Rattle.run_model.specs.Run.{Answer, Usual}
use Rattle.world_io.specs.Outside.{StoreState, SinkState}
use Rattle.world_io.specs.Logs.{StoreLog, AreOffered, IsOffered}
use Rattle.world_io.specs.Looks.{look_failed}
use Rattle.world_io.specs.declared.store.Look.{Look}
use Rattle.world_io.specs.declared.store.Look.TheVariants as look
use Rattle.world_io.specs.declared.sink.Put.{Put}
use Rattle.world_io.specs.declared.sink.Put.TheVariants as put
use Rattle.world_io.proofs.Stores.{none-StoreLog}
use Rattle.plain_runner.specs.Runs.{Outside}
use Rattle.runner_parts.specs.Answers.{failed_if}
use Rattle.move_requests.specs.Asked.{Asked, Nothing, Looks, Puts, MayAnswer, asks_if}
use Rattle.move_requests.specs.Offers.{put_answer as put_told}
use Rattle.runner_parts.specs.Requests.{IsAnswered}
use Rattle.runner_parts.specs.Heard.{IsTrueOf, AreTrueOf}
use Rattle.runner_parts.specs.OwnCalls.{put_answer, TakesSome, Offers}

-- ---- nothing

pub hears-nothing : (o : Outside) → IsAnswered Nothing Usual o o
hears-nothing o = record { may = refl; store = none-StoreLog o.store; out = refl; err = refl }

-- where nothing is asked
pub hears-if : (b : Bool) (asked : Asked) (o : Outside) → b ≡ false → IsAnswered (asks_if b asked) Usual o o
hears-if true asked o e = absurd (let f : true ≡ false = e in cc)
hears-if false asked o e = hears-nothing o

-- where this is asked
pub hears-on : (b : Bool) (asked : Asked) (x : Answer) (o n : Outside) → b ≡ true → IsAnswered asked x o n → IsAnswered (asks_if b asked) x o n
hears-on true asked x o n e h = h
hears-on false asked x o n e h = absurd (let f : false ≡ true = e in cc)

-- ---- a look

pub hears-look : (name : Name) (l : Look) (o n : Outside) → StoreLog o.store (look_failed l ∷ []) n.store → n.out ≡ o.out → n.err ≡ o.err → IsAnswered (Looks name) (failed_if (look_failed l)) o n
hears-look name look.Failed o n log e f = record { may = inr refl; store = log; out = e; err = f }
hears-look name (look.Found size) o n log e f = record { may = inl refl; store = log; out = e; err = f }
hears-look name look.Absent o n log e f = record { may = inl refl; store = log; out = e; err = f }

-- ---- a put

-- as many as were taken
taken-same : (n k : ℕ) → 0 < k → k ≤ n → max 1 (min k n) ≡ k
taken-same n k some low = omega arith

told-same : (n : ℕ) (p : Put) → TakesSome n p → put_told n (put_answer p) ≡ p
told-same n (put.Took k) some = ap (λ (k : ℕ). put.Took k) (taken-same n k some.0 some.1)
told-same n put.Failed some = refl

may-take : (to_out : Bool) (bytes : List ℕ) (p : Put) → TakesSome (length bytes) p → MayAnswer (Puts to_out bytes) (put_answer p)
may-take to_out bytes (put.Took k) some = inr (k, refl, some.0, some.1)
may-take to_out bytes put.Failed some = inl refl

one-offer : (bytes : List ℕ) (p : Put) (old new : SinkState) → TakesSome (length bytes) p → IsOffered old (bytes, p) new → AreOffered old ((bytes, put_told (length bytes) (put_answer p)) ∷ []) new
one-offer bytes p old new some is = (new, subst (λ (q : Put). IsOffered old (bytes, q) new) (sym (told-same (length bytes) p some)) is, refl)

pub hears-put : (to_out : Bool) (bytes : List ℕ) (p : Put) (o n : Outside) → n.store ≡ o.store → TakesSome (length bytes) p → Offers to_out bytes o.out o.err p n.out n.err
    → IsAnswered (Puts to_out bytes) (put_answer p) o n
hears-put true bytes p o n e some offers =
    record {
      may = may-take true bytes p some;
      store = subst (λ (s : StoreState). StoreLog o.store [] s) (sym e) (none-StoreLog o.store);
      out = one-offer bytes p o.out n.out some offers.0;
      err = offers.1;
    }
hears-put false bytes p o n e some offers =
    record {
      may = may-take false bytes p some;
      store = subst (λ (s : StoreState). StoreLog o.store [] s) (sym e) (none-StoreLog o.store);
      out = offers.1;
      err = one-offer bytes p o.err n.err some offers.0;
    }

-- nothing was said
pub said-nothing : (files : Files) → AreTrueOf files []
said-nothing files = All-nil (IsTrueOf files)
