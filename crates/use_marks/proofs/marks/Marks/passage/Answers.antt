use Rattle.std.proofs.Common.{rules, ◌≡◌, ◌∙◌, ap, ap₂, ℕ}
use Rattle.spec_base.specs.Word.{plus_int}
use Rattle.rv_model.specs.Memory.{any_from}
use Rattle.rv_model.specs.Registers.{reg}
use Rattle.hart_step.specs.Core.{core_of}
use Rattle.use_marks.specs.Ranges.{in_ranges}
use Rattle.use_marks.specs.Marked.{marks_of}
use Rattle.use_marks.specs.declared.passage.MarkChange.TheVariants as to
use Rattle.use_marks.proofs.marks.Marks.passage.Goals as goal

pub returns-in-Load-clause-change : goal.returns-in-Load-clause-change
unfolding marks_of
returns-in-Load-clause-change g c =
    let e : c.address_of.result ≡ plus_int (reg (core_of c.args.here.now).registers c.in-Load.rs1) c.in-Load.imm = search rules in
    rw c.in-Load.is (ap (to.Register c.in-Load.rd) (c.contains_any.ensures ∙ ap₂ (λ (a n : ℕ). any_from (in_ranges c.args.self.now.bytes.last_by_first.entries) a n) e c.load_bytes.ensures))
