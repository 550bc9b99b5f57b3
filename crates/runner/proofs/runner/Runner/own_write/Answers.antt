use Rattle.std.proofs.Common.{◌≡◌, ℕ, max, min, pos, [], inl, refl, ap, ◌∙◌, arith}
use Rattle.program_model.specs.Calls.{Write}
use Rattle.run_model.specs.Run.{Run, SinkFailed}
use Rattle.world_io.specs.declared.sink.Put.{Put}
use Rattle.world_io.specs.declared.sink.Put.TheVariants as put
use Rattle.run_model.specs.OwnMoves.{write_done, ended, own_call_step}
use Rattle.machine_laws.specs.OneMachine.{space_of_run}
use Rattle.runner_parts.specs.OwnCalls.{text_told, put_in, call_answered, put_answer}
use Rattle.runner_parts.specs.Parts.{own_side, IsAtRest}
use Rattle.runner.specs.Shows.{Shows}
use Rattle.runner.proofs.Moved.{shows-as}
use Rattle.runner.proofs.Puts.{shows-put, write-is}
use Rattle.runner_parts.proofs.ReadFronts.{rest-other}
use Rattle.runner.proofs.Causes.{took-caused, put-caused}
use Rattle.rv_model.specs.Memory.{bytes_at}
use Rattle.rv_model.specs.Data.{memory_in}
use Rattle.hart_mem.specs.Held.{space_of, data_byte}
use Rattle.runner.proofs.runner.Runner.own_write.Goals as goal

pub returns-in-Took-clause-shows : goal.returns-in-Took-clause-shows
returns-in-Took-clause-shows g c w r h at =
    let k : ℕ = c.in-Took.taken in
    let rest : IsAtRest (own_side r) r.cache = rest-other w r (Write c.args.to_out c.args.address c.args.count) r.cache c.args.self.now.staging.items at refl h.cache.gathers in
    let told : Run = text_told c.args.to_out k c.args.address c.args.count r in
    let shown : Shows c.tell_write.new.self w told = c.tell_write.ensures.shows w r c.args.address (c.in-Took.ensures.shows w r h rest) (c.in-Took.ensures.bytes w r h) in
    let next : Run = record told { own = put_in c.args.to_out k c.args.address c.args.count r.own } in
    let taken : max 1 (min k c.args.count) ≡ k = omega (arith, c.in-Took.ensures.taken.0, c.in-Took.ensures.taken.1) in
    let answered = c.answer_count.ensures.shows w next (shows-put c.tell_write.new.self w told c.args.to_out k c.args.address c.args.count (record { none = rest.none; goes = rest.goes; undemanded = rest.undemanded }) shown) in
    shows-as _ w _ (call_answered next.own.files (pos k) next)
    (ap (λ (n : ℕ). write_done w n c.args.to_out c.args.address c.args.count r) taken ∙ write-is w r c.args.to_out k c.args.address c.args.count) answered

pub returns-in-Failed-clause-shows : goal.returns-in-Failed-clause-shows
unfolding space_of_run
returns-in-Failed-clause-shows g c w r q at =
    let rest : IsAtRest (own_side r) r.cache = rest-other w r (Write c.args.to_out c.args.address c.args.count) r.cache c.args.self.now.staging.items at refl q.cache.gathers in
    let h : Shows c.offer-put.new.self w r = c.in-Failed.ensures.shows w r q rest in
    shows-as _ w _ (ended r SinkFailed []) (ap (λ (p : Put). own_call_step w (put_answer p) r (Write c.args.to_out c.args.address c.args.count)) c.in-Failed.is) (record {
      space = h.space;
      own = record { hart = h.own.hart; side = h.own.side; files_are = h.own.files_are; asked_is = h.own.asked_is; stalled_is = h.own.stalled_is; gathered_is = h.own.gathered_is };
      shadow = h.shadow;
      sizes = h.sizes;
      cache = record {
        lists_are = h.cache.lists_are;
        most = h.cache.most;
        depth = h.cache.depth;
        contents = h.cache.contents;
        gathers = inl (record { none = rest.none; goes = rest.goes; undemanded = rest.undemanded });
      };
      counts = h.counts;
      ahead = h.ahead;
      whole = h.whole;
      end = refl;
      notes = c.clear.ensures;
      text = h.text;
    })

pub returns-in-Took-clause-caused : goal.returns-in-Took-clause-caused
returns-in-Took-clause-caused g c store =
    took-caused c.args.to_out (bytes_at (memory_in (data_byte (space_of c.args.self.now.mem))) c.args.address c.args.count) (put.Took c.in-Took.taken) _ _ _ (c.answer_count.ensures.end ∙ c.tell_write.ensures.end ∙ c.in-Took.ensures.kept.2 ∙ c.requires.on) refl c.in-Took.ensures.puts

pub returns-in-Failed-clause-caused : goal.returns-in-Failed-clause-caused
returns-in-Failed-clause-caused g c store = put-caused c.args.to_out (bytes_at (memory_in (data_byte (space_of c.args.self.now.mem))) c.args.address c.args.count) _ _ _ refl refl c.in-Failed.ensures.puts
