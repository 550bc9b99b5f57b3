use Rattle.std.proofs.Common.{map, string_bytes, IsTrue, ap, sym, ◌∙◌, subst}
use Rattle.spec_base.specs.Layout.{is_lawful}
use Rattle.rv_model.specs.Registers.{with_reg, all_zero}
use Rattle.program_model.specs.Descriptors.{start_of}
use Rattle.program_model.specs.Loading.{stack_start}
use Rattle.hart_step.specs.Core.{Core}
use Rattle.program_loader.specs.Programs.{start_space}
use Rattle.program_loader.proofs.loading.load_in.Goals as goal

pub write_start-requires-clause-lawful : goal.write_start-requires-clause-lawful
write_start-requires-clause-lawful c =
    subst (λ l. IsTrue (is_lawful l)) (sym (ap (λ s. s.layout) c.in_ok-mem.ensures)) c.requires.lawful

pub write_start-requires-clause-version : goal.write_start-requires-clause-version
write_start-requires-clause-version c = ap (λ s. s.layout.version) c.in_ok-mem.ensures

pub returns : goal.returns
returns c =
    let arguments = map string_bytes c.args.arguments.now in
    let stack = c.in_ok-stack.ensures.0 ∙ ap (λ s. stack_start s.layout arguments) c.in_ok-mem.ensures in
    record {
      core_is =
          c.set_reg.ensures
          ∙ (ap (λ (k : Core). record k { registers = with_reg k.registers c.from_low_bits.result c.in_ok-stack.stack }) c.new-hart.ensures
          ∙ (λ i. record { registers = with_reg all_zero (c.from_low_bits.ensures i) (stack i); pc = c.args.image.now.entry; view = c.args.view; site = 0 }));
      space_is = c.in_ok-stack.ensures.1 ∙ ap (λ s. start_space s arguments) c.in_ok-mem.ensures;
      files_are = c.new-files.ensures ∙ ap (λ most. start_of c.args.image.now.break_start most) c.image_limit.ensures;
    }
