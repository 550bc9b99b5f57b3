-- The promises of runs, said of files.
use Rattle.std.proofs.Common.{◌≡◌, ℕ, List, sym, subst, ◌∙◌}
use Rattle.spec_base.specs.Files.{Files}
use Rattle.spec_base.specs.declared.layout.Version.{Version}
use Rattle.elf_image.specs.declared.image.Image.{Image}
use Rattle.program_model.specs.PlainRun.{End}
use Rattle.run_model.specs.Run.{World, Run}
use Rattle.run_model.specs.Moves.{Moves, run}
use Rattle.run_laws.specs.OwnLaws.{Accepted, DoesAsPlain, SameEnd, puts_of}
use Rattle.own_laws.proofs.OwnLaws.{preserves}
use Rattle.hint_laws.proofs.EachRun.{hints_are_reads}
use Rattle.file_world.specs.Worlds.{opened, world_of, plain_world}
use Rattle.file_world.specs.Promises.{FilesKeepPromises, KeepsPromises, SamePlain}
use Rattle.file_world.proofs.Loaded.{files_are_accepted}
use Rattle.file_world.proofs.Unseen.{after-unseen, end-unseen}

-- a run that does as one does as the other
pub as-same : (v w : World) (r : Run) → SamePlain v w → DoesAsPlain w r → DoesAsPlain v r
as-same v w r same h = record {
  state = h.state;
  reached = sym (same.state (puts_of r) r.own_done) ∙ h.reached;
  calls = h.calls;
  out = h.out;
  err = h.err;
  end = subst (λ (e : End). SameEnd r.end e) (same.end (puts_of r) h.state) h.end;
  goes_on = h.goes_on;
}

-- an accepted world keeps its promises
pub promises-kept : (v w : World) (ms : Moves) → Accepted w → SamePlain v w → KeepsPromises v w ms
promises-kept v w ms h same = record {
  preserved = as-same v w (run w ms) same (preserves w h ms);
  hinted = hints_are_reads w h ms;
}

pub files_keep_promises : FilesKeepPromises
files_keep_promises bytes image regions version arguments files h ms =
    let v : World = plain_world bytes image version arguments files in
    let w : World = world_of bytes (opened bytes image regions version) arguments files in
    promises-kept v w ms (files_are_accepted bytes image regions version arguments files h) (record {
      state = λ t n. after-unseen v.image regions files t v.image.start n;
      end = λ t s. end-unseen v.image regions files t s;
    })
