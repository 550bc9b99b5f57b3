use Rattle.std.proofs.Common.{◌≡◌, ◌∙◌, ap, ℕ, List, ◌+◌, ◌-◌, ◌++◌, length, replicate, vec_capacity, arith, inl, inr}
use Rattle.std.proofs.lemmas.Bool.{cases_lt}
use Rattle.page_pool.specs.Pages.{blank_page, reached, Written}
use Rattle.page_pool.proofs.pages.Pages.reach.Goals as goal

pub returns : goal.returns
returns c =
    let old : List (List ℕ) = c.self.inside.pages.items in
    let missing : c.loop.counter - length old ≡ c.args.at + 1 - length old =
    elim (cases_lt (c.args.at + 1) (length old)) [
      | inl past ↦ let e = c.loop.invariant.past (omega (arith, past)) in omega (arith, past, e)
      | inr within ↦ let e = c.loop.auto.counter-end (omega (arith, within, c.len-counter.ensures)) in omega (arith, e, c.loop-test.false)
    ] in
    let same : Written → Written = λ w. record w { pages = reached w.pages c.args.at } in
    ap (λ pages. record { pages = pages; room = vec_capacity c.loop.self-inside.pages }) (c.loop.invariant.pages ∙ ap (λ n. old ++ replicate n blank_page) missing)
    ∙ ap (λ room. record { pages = reached old c.args.at; room = room }) c.loop.invariant.capacity
    ∙ ap same c.self.view_is
