use Rattle.std.proofs.Common.{◌∙◌, ap, sym, refl}
use Rattle.page_pool.specs.Frames.{with_bytes}
use Rattle.page_pool.proofs.PoolLemmas.{is_used_by, is_placed, looked_up, bytes_looked_up, with_pages-sound, with_pages-view}
use Rattle.page_pool.proofs.pool.Pool.bytes_mut.Goals as goal

pub bytes_mut-requires : goal.bytes_mut-requires
bytes_mut-requires c = is_placed c.self.inside c.self.invariant c.frame.inside.number (is_used_by c.self.inside c.frame.inside.number c.args.self.now c.args.frame.now c.self.view_is c.frame.view_is c.requires)

pub invariant_of-self-lent : goal.invariant_of-self-lent
invariant_of-self-lent c = λ w.
    let k = c.frame.inside.number in
    with_pages-sound c.self.inside c.self.invariant k (is_used_by c.self.inside k c.args.self.now c.args.frame.now c.self.view_is c.frame.view_is c.requires) w _ refl

pub returns : goal.returns
returns c =
    let k = c.frame.inside.number in
    let used = is_used_by c.self.inside k c.args.self.now c.args.frame.now c.self.view_is c.frame.view_is c.requires in
    let was = bytes_looked_up c.args.self.now c.args.frame.now _ (looked_up c.self.inside k c.args.self.now c.args.frame.now c.self.view_is c.frame.view_is c.requires) in (
      (
        refl,
        λ w. with_pages-view c.self.inside c.self.invariant k used w _ refl
            ∙ ap (λ q. with_bytes q k w) c.self.view_is ∙ ap (λ n. with_bytes c.args.self.now n w) c.frame.view_is,
      ),
      record { writes_back = _; value = c.bytes_mut.ensures.value ∙ sym was; len = c.bytes_mut.ensures.len },
    )
