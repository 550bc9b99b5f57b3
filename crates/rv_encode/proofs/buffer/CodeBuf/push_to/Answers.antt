use Rattle.std.proofs.Common.{◌≡◌, ◌+◌, ◌<◌, length, arith, subst, sym}
use Rattle.std.proofs.lemmas.Grind.{common_steps}
use Rattle.rv_encode.specs.Code.{Code}
use Rattle.rv_encode.proofs.Kept.{jumps-push, within-push, ascend-push, labels-push}
use Rattle.rv_encode.proofs.buffer.CodeBuf.push_to.Goals as goal

pub invariant_of-self-2 : goal.invariant_of-self-2
invariant_of-self-2 c =
    let room : c.args.to < length c.self.inside.places.items = subst (λ (v : Code). c.args.to < length v.places) (sym c.self.view_is) c.requires.label in
    let longer : length c.push-2.new.self.items ≡ length c.self.inside.words.items + 1 = grind (arith, common_steps, c.push-2.ensures, c.unwrap.ensures, c.in_ok-reserve.ensures, c.reserve.ensures) in
    let at_end : c.len-at.result ≡ length c.self.inside.words.items = grind (arith, common_steps, c.len-at.ensures, c.reserve.ensures, c.in_ok-reserve.ensures) in
    record {
      jumps = jumps-push _ _ _ c.in_ok-push.ensures.items c.self.invariant.jumps c.requires.jump;
      within = within-push _ _ _ (length c.self.inside.words.items) (length c.push-2.new.self.items) c.in_ok-push.ensures.items c.self.invariant.within (omega arith) (omega arith);
      ascend = ascend-push _ _ _ (length c.self.inside.words.items) c.in_ok-push.ensures.items c.self.invariant.ascend c.self.invariant.within (sym at_end);
      labels = labels-push _ _ _ _ c.in_ok-push.ensures.items c.self.invariant.labels room;
    }
