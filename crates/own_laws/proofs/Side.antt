-- What the laws of the own side speak of: the program's part of a run, with what is counted since the last restart.
use Rattle.std.proofs.Common.{◌≡◌, ℕ, Bool, List, Option}
use Rattle.spec_base.specs.declared.machine.View.{View}
use Rattle.spec_base.specs.declared.spot.BlockSpot.{BlockSpot}
use Rattle.rv_model.specs.Memory.{Memory}
use Rattle.program_model.specs.PlainRun.{State}
use Rattle.run_model.specs.Run.{Run, RunEnd}
use Rattle.run_laws.specs.OwnLaws.{OwnPart}

-- ---- counts

-- the completed instructions, in all and since the last restart; whether each put since it was whole; the state in which it was made; how many restarts there were; the blocks that the present read has; and whether the present call has restarted the shadow
pub record Tally : Type 0 where
  pub done : ℕ
  pub own : ℕ
  pub whole : Bool
  pub origin : Option State
  pub restarts : ℕ
  pub gathered : ℕ
  pub asked : Bool

-- the counts of a run
abbrev pub tally_of : Run → Tally
tally_of r =
    record {
      done = r.own_done;
      own = r.since.own;
      whole = r.since.whole;
      origin = r.since.origin;
      restarts = r.restarts;
      gathered = r.gathered;
      asked = r.asked;
    }

-- ---- the own side

-- the own hart, where it stands, and what is counted of it
pub record Side : Type 0 where
  pub own : State
  pub site : ℕ
  pub gate : State
  pub view : View
  pub page : Memory
  pub stalled : Bool
  pub tally : Tally
  pub end : Option RunEnd

-- the own side of a run
abbrev pub side_of : Run → Side
side_of r =
    record { own = r.own; site = r.site; gate = r.at_gate; view = r.view; page = r.own_page; stalled = r.stalled; tally = tally_of r; end = r.end }

-- a run with this own side in place of its own
abbrev pub with_side : Run → Side → Run
with_side r p =
    record r {
      own = p.own;
      site = p.site;
      at_gate = p.gate;
      view = p.view;
      own_page = p.page;
      stalled = p.stalled;
      own_done = p.tally.done;
      since = record r.since { own = p.tally.own; whole = p.tally.whole; origin = p.tally.origin };
      restarts = p.tally.restarts;
      gathered = p.tally.gathered;
      asked = p.tally.asked;
      end = p.end;
    }

-- the program's part of an own side
abbrev pub part_of : Side → OwnPart
part_of p =
    record { own = p.own; site = p.site; view = p.view; page = p.page; asked = p.tally.asked; stalled = p.stalled; gathered = p.tally.gathered; done = p.tally.done; end = p.end }

-- ---- what a move of the shadow keeps: the own side, the bytes put, and the demanded block

pub record Kept : Type 0 where
  pub side : Side
  pub text : List ℕ
  pub demanded : Option BlockSpot

-- what a run has of it
abbrev pub kept_of : Run → Kept
kept_of r = record { side = side_of r; text = r.text; demanded = r.cache.demanded }
