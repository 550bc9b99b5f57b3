-- One index more.
use Rattle.std.proofs.Common.{◌∙◌, sym}
use Rattle.site_finder.specs.Sites.{is_call, is_special}
use Rattle.site_finder.proofs.Replaced.{sites-with, sites-without}
use Rattle.site_finder.proofs.finding.sites.Goals as goal
use Rattle.site_finder.proofs.finding.sites.Goals.{then-is_call+in_ok-push, else-is_call, then-is_special+in_ok-push-2, else-is_special}

pub loop-at-preserved : goal.loop-at-preserved
loop-at-preserved c = record {
  calls_so_far = elim c.if-is_call.branch [
    | then-is_call+in_ok-push w ↦ let more = sites-with is_call c.args.text.now c.loop-at.at (sym c.is_call.ensures ∙ w.if-is_call.true) in cc (w.in_ok-push.ensures.items)
    | else-is_call w ↦ let more = sites-without is_call c.args.text.now c.loop-at.at (sym c.is_call.ensures ∙ w.if-is_call.false) in cc
  ];
  specials_so_far = elim c.if-is_special.branch [
    | then-is_special+in_ok-push-2 w ↦ let more = sites-with is_special c.args.text.now c.loop-at.at (sym c.is_special.ensures ∙ w.if-is_special.true) in cc (w.in_ok-push-2.ensures.items)
    | else-is_special w ↦ let more = sites-without is_special c.args.text.now c.loop-at.at (sym c.is_special.ensures ∙ w.if-is_special.false) in cc
  ];
}
