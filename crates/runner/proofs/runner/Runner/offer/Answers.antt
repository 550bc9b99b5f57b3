use Rattle.std.proofs.Common.{◌≡◌, ℕ, List, take, ap, subst, ◌∙◌, arith}
use Rattle.std.specs.Vec.{with_items}
use Rattle.std.proofs.lemmas.List.{with_items_is}
use Rattle.rv_model.specs.Memory.{Memory, bytes_at}
use Rattle.rv_model.specs.Space.{Space}
use Rattle.machine_laws.specs.OneMachine.{space_of_run}
use Rattle.hart_mem.specs.Held.{space_of, data_byte}
use Rattle.rv_model.specs.Data.{memory_in}
use Rattle.runner_parts.specs.OwnCalls.{Offers}
use Rattle.hart_mem.proofs.DataBytes.{memory-is, zero_off_data}
use Rattle.runner.proofs.runner.Runner.offer.Goals as goal

pub returns-clause-bytes : goal.returns-clause-bytes
unfolding space_of_run
returns-clause-bytes g c w r h =
    let memory : memory_in (data_byte (space_of c.args.self.now.mem)) ≡ r.own.memory =
    memory-is (space_of c.args.self.now.mem) (zero_off_data c.args.self.now.mem) ∙ ap (λ (s : Space). s.program) h.space in
    let is : (with_items c.args.self.now.staging c.put_through.new.buffer).items ≡ c.put_through.new.buffer =
    with_items_is c.args.self.now.staging c.put_through.new.buffer (omega (arith, c.put_through.auto.buffer, c.deref_mut.ensures.len)) in
    ap (λ (k : List ℕ). take c.args.count k) is ∙ c.put_through.ensures.bytes ∙ ap (λ (m : Memory). bytes_at m c.args.address c.args.count) memory

pub returns-clause-offers : goal.returns-clause-offers
unfolding space_of_run
returns-clause-offers g c w r h =
    let memory : memory_in (data_byte (space_of c.args.self.now.mem)) ≡ r.own.memory =
    memory-is (space_of c.args.self.now.mem) (zero_off_data c.args.self.now.mem) ∙ ap (λ (s : Space). s.program) h.space in
    subst (λ (m : Memory). Offers c.args.to_out (bytes_at m c.args.address c.args.count) (g.O.Sink.state c.args.out.now) (g.E.Sink.state c.args.err.now) c.put_through.result (g.O.Sink.state c.put_through.new.out) (g.E.Sink.state c.put_through.new.err)) memory
    c.put_through.ensures.offers
