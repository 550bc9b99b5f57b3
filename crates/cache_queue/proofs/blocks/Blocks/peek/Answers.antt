use Rattle.std.proofs.Common.{Some, is_some, sym, ◌∙◌, ap}
use Rattle.cache_queue.proofs.Looks.{holds-shown, IsInUse-found, lookup-shown}
use Rattle.cache_queue.proofs.blocks.Blocks.peek.Goals as goal

pub bytes-requires : goal.bytes-requires
bytes-requires c =
    IsInUse-found
    c.self.inside.pool
    c.self.inside.frames.entries
    c.args.spot.now
    c.in-Some.frame.now
    c.self.invariant.frames
    (sym c.in-Some.ensures)

pub returns-in-Some-clause-found : goal.returns-in-Some-clause-found
returns-in-Some-clause-found c =
    rw
    (← c.self.view_is)
    (ap is_some c.in-Some.ensures ∙ holds-shown c.self.inside.pool c.self.inside.frames.entries c.args.spot.now)

pub returns-in-Some-clause-bytes : goal.returns-in-Some-clause-bytes
returns-in-Some-clause-bytes c =
    λ _. rw
    (← c.self.view_is)
    (
    lookup-shown
    c.self.inside.pool
    c.self.inside.frames.entries
    c.args.spot.now
    (Some c.in-Some.frame.now)
    (sym c.in-Some.ensures)
    ∙ ap Some (sym (c.copy_from_slice.ensures.after ∙ c.bytes.ensures.value))
    )

pub returns-in-None-clause-found : goal.returns-in-None-clause-found
returns-in-None-clause-found c =
    rw
    (← c.self.view_is)
    (ap is_some c.in-None.ensures ∙ holds-shown c.self.inside.pool c.self.inside.frames.entries c.args.spot.now)
