use Rattle.std.proofs.Common.{◌+◌, codes, decimal}
use Rattle.std.proofs.lemmas.List.{take_rest}
use Rattle.run_commands.specs.Demo.{report_words}
use Rattle.run_commands.proofs.Demonstrating.{joined}
use Rattle.run_commands.proofs.lines.demo_line.Goals as goal

pub returns : goal.returns
returns c =
    rw (
      c.in_ok-extend_from_slice-2.ensures.items,
      take_rest c.deref.result.now 10,
      c.in_ok-extend_from_slice.ensures.items,
      c.in_ok-push_count-4.ensures.ok,
      c.in_ok-push_count-3.ensures.ok,
      c.in_ok-push_count-2.ensures.ok,
      c.in_ok-push_count.ensures.ok,
      c.in_ok-line.ensures.items,
      c.deref.ensures.value,
      c.in_ok-told.ensures,
    ) (joined (codes "demo ") (decimal c.args.number) (codes " words ") (decimal (31 + c.args.number)) (codes " rewritten ") (decimal c.args.rewritten) (codes " written ") (decimal c.args.written) (codes " ") (report_words c.args.counts.now))
