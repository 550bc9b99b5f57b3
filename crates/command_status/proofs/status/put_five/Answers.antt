use Rattle.std.proofs.Common.{◌++◌, false}
use Rattle.world_io.proofs.Sinks.{then-PutsText, longer-PutsText}
use Rattle.command_status.proofs.status.put_five.Goals as goal

pub returns-then-not-put_all : goal.returns-then-not-put_all
returns-then-not-put_all g c = longer-PutsText _ _ c.args.first.now (c.args.second.now ++ (c.args.third.now ++ (c.args.fourth.now ++ c.args.fifth.now))) c.if-not-put_all.ensures.puts

pub returns-then-not-put_all-2 : goal.returns-then-not-put_all-2
returns-then-not-put_all-2 g c =
    then-PutsText (g.E.Sink.state c.args.err.now) (g.E.Sink.state c.put_all.new.sink) (g.E.Sink.state c.put_all-2.new.sink) c.args.first.now (c.args.second.now ++ (c.args.third.now ++ (c.args.fourth.now ++ c.args.fifth.now))) false
    c.if-not-put_all.ensures.puts
    (longer-PutsText (g.E.Sink.state c.put_all.new.sink) (g.E.Sink.state c.put_all-2.new.sink) c.args.second.now (c.args.third.now ++ (c.args.fourth.now ++ c.args.fifth.now)) c.if-not-put_all-2.ensures.puts)

pub returns : goal.returns
returns g c =
    then-PutsText (g.E.Sink.state c.args.err.now) (g.E.Sink.state c.put_all.new.sink) (g.E.Sink.state c.put_three.new.err) c.args.first.now
    (c.args.second.now ++ (c.args.third.now ++ (c.args.fourth.now ++ c.args.fifth.now))) c.put_three.result
    c.if-not-put_all.ensures.puts
    (then-PutsText (g.E.Sink.state c.put_all.new.sink) (g.E.Sink.state c.put_all-2.new.sink) (g.E.Sink.state c.put_three.new.err) c.args.second.now
    (c.args.third.now ++ (c.args.fourth.now ++ c.args.fifth.now)) c.put_three.result
    c.if-not-put_all-2.ensures.puts c.put_three.ensures)
