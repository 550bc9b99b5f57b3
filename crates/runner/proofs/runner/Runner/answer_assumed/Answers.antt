use Rattle.std.proofs.Common.{◌≡◌, ℕ, sym, subst, ◌∙◌}
use Rattle.rv_model.specs.Registers.{reg}
use Rattle.program_model.specs.Descriptors.{Descriptors}
use Rattle.program_model.specs.Calls.{after_read}
use Rattle.machine_laws.specs.OneMachine.{space_of_run}
use Rattle.mark_laws.specs.Sizes.{TrueSizes}
use Rattle.runner.proofs.runner.Runner.answer_assumed.Goals as goal

pub returns-clause-shows : goal.returns-clause-shows
unfolding space_of_run
returns-clause-shows c w r h sizes =
    let n : ℕ = c.args.spot.now.count in
    let is : c.read_on.new.self ≡ after_read r.shadow.files (reg r.shadow.registers 10) n =
    c.read_on.ensures
    ∙ (λ i. after_read (h.shadow.files_are i) ((c.reg-descriptor.ensures ∙ (λ j. reg (h.shadow.registers j) (c.from_low_bits.ensures j))) i) n) in
    c.assume_count.ensures.shows w (record r { shadow = record r.shadow { files = after_read r.shadow.files (reg r.shadow.registers 10) n } })
    (record {
      space = h.space;
      own = h.own;
      shadow = record { view = h.shadow.view; registers = h.shadow.registers; pc = h.shadow.pc; files_are = is; state_is = h.shadow.state_is };
      sizes = subst (λ (f : Descriptors). TrueSizes w.files f) (sym is) sizes;
      cache = h.cache;
      counts = h.counts;
      ahead = h.ahead;
      whole = h.whole;
      end = h.end;
      notes = h.notes;
      text = h.text;
    })
