-- The world of a file that is run is accepted, and its moves do as the program by itself.
use Rattle.std.proofs.Common.{◌≡◌, ℕ, List, Option, Some, None, Result, Ok, Err, refl, ap, sym, ◌∙◌, subst}
use Rattle.std.specs.Prelude.{All}
use Rattle.spec_base.specs.Files.{Files}
use Rattle.spec_base.specs.declared.layout.Version.{Version}
use Rattle.elf_image.specs.declared.image.Image.{Image}
use Rattle.elf_image.specs.declared.refusal.Refusal.{Refusal}
use Rattle.elf_image.specs.declared.refusal.Refusal.TheVariants.{Already}
use Rattle.elf_image.specs.declared.recovery.Part.{Part}
use Rattle.elf_image.specs.declared.recovery.Recovered.{Recovered}
use Rattle.elf_image.specs.Profile.{profile}
use Rattle.elf_image.specs.Recovery.{front_damage, carried}
use Rattle.rewriter.specs.Layouts.{rewritten}
use Rattle.rewritten_reader.specs.Damage.{first_damage, recovered, recovered_unless, body_damage, earlier}
use Rattle.program_model.specs.PlainRun.{Image as Program, all_taken}
use Rattle.run_model.specs.Run.{World}
use Rattle.run_laws.specs.OwnLaws.{Accepted, AllBytes}
use Rattle.plain_runner.specs.Runs.{Outside}
use Rattle.plain_runner.specs.declared.ending.Ending.{Ending}
use Rattle.file_world.specs.Worlds.{plain_world, AreFiles}
use Rattle.file_world.specs.Promises.{IsRunnable, SamePlain, RunsAsPlain, world_again}
use Rattle.file_world.proofs.Again.{runs-as_plain}
use Rattle.file_world.proofs.Loaded.{recovered_are_accepted}
use Rattle.run_promises.specs.Promises.{IsAsPlain, EndsAs, IsEnd, ComesTo}
use Rattle.run_promises.proofs.Whole.{moves_are_as_plain, moves_get_on}
use Rattle.run_promises.proofs.Finish.{moves_finish}
use Rattle.file_runs.specs.Runs.{unless_damaged, run_file_by, run_world, plain_program_by, IsRun, RunWorldsAreAccepted, RunsAreAsPlain, RunsFinish, RunsGetOn}

-- ---- what a rewritten file carries

-- what is recovered is what it carries
carried-is : (bytes : List ℕ) (r : Recovered) → recovered bytes ≡ Ok r → carried bytes ≡ r
carried-is bytes r e = by_damage (first_damage bytes) e
  where
    by_damage : (o : Option Part) → recovered_unless o (carried bytes) ≡ Ok r → carried bytes ≡ r
    by_damage None e = cc
    by_damage (Some p) e = absurd (let bad = e in cc)

-- an undamaged file has an undamaged front
front-none : (bytes : List ℕ) → first_damage bytes ≡ None → front_damage bytes ≡ None
unfolding first_damage
front-none bytes e = by_front (front_damage bytes) e
  where
    by_front : (o : Option Part) → earlier o (body_damage bytes (carried bytes)) ≡ None → o ≡ None
    by_front None e = refl
    by_front (Some p) e = absurd (let bad = e in cc)

unless-none : (o : Option Part) (bytes file : List ℕ) → unless_damaged o bytes ≡ Ok file → (o ≡ None) × (bytes ≡ file)
unless-none None bytes file e = (refl, cc)
unless-none (Some p) bytes file e = absurd (let bad = e in cc)

-- ---- programs that run alike

-- a program whose plain run is that of another does as that one
alike-IsAsPlain : (v w : World) (ending : Ending) (old new : Outside) → v.files ≡ w.files → SamePlain v w → IsAsPlain w.image w.files ending old new → IsAsPlain v.image v.files ending old new
alike-IsAsPlain v w ending old new files same h =
    record {
      n = h.n;
      state = h.state;
      outs = h.outs;
      errs = h.errs;
      reached = λ t a. sym (same.state t h.n) ∙ h.reached t a;
      out_is = h.out_is;
      err_is = h.err_is;
      ends = λ t. subst (λ e. EndsAs e h.n h.state ending) (same.end t h.state) (h.ends t);
      out_fault = h.out_fault;
      err_fault = h.err_fault;
      failed = h.failed;
      out_log = h.out_log;
      err_log = h.err_log;
    }

-- ---- the two kinds of file

-- what is promised of the world of a file that is run, with the program by itself
record Promised (program : Program) (file : List ℕ) (arguments : List (List ℕ)) (files : Files) : Type 0 where
  accepted : Accepted (run_world file arguments files)
  alike : SamePlain (record { image = program; files = files }) (run_world file arguments files)

alike-itself : (w : World) → SamePlain w w
alike-itself w = record { state = λ t n. refl; end = λ t s. refl }

module _ (regions : ℕ) (version : Version) (bytes file : List ℕ) (arguments : List (List ℕ)) (files : Files) (h : IsRun regions version bytes file arguments files) where
  -- a file that was rewritten for this run
  rewritten-now : (image : Image) → profile bytes version ≡ Ok image → rewritten bytes image regions version ≡ file → Promised (plain_world bytes image version arguments files).image file arguments files
  rewritten-now image e same =
      let runs : RunsAsPlain bytes image regions version arguments files = runs-as_plain bytes image regions version arguments files
      (record { are_bytes = h.are_bytes; accepted = e; some_regions = h.some_regions; few_regions = h.few_regions; are_words = h.are_words; are_files = h.are_files }) in
      let carries : carried (rewritten bytes image regions version) ≡ runs.carries = carried-is (rewritten bytes image regions version) runs.carries runs.recovers in
      subst (λ f. Promised (plain_world bytes image version arguments files).image f arguments files) same
      (record {
        accepted = subst (λ r. Accepted (world_again (rewritten bytes image regions version) r arguments files)) (sym carries) runs.accepted;
        alike = subst (λ r. SamePlain (plain_world bytes image version arguments files) (world_again (rewritten bytes image regions version) r arguments files)) (sym carries) runs.plain;
      })

  -- a file that was rewritten before
  rewritten-before : (why : Refusal) → unless_damaged (first_damage bytes) bytes ≡ Ok file → Promised (plain_program_by (Err why) version bytes arguments) file arguments files
  rewritten-before why e =
      let p = unless-none (first_damage bytes) bytes file e in
      subst (λ f. Promised (plain_program_by (Err why) version bytes arguments) f arguments files) p.1
      (record {
        accepted = recovered_are_accepted bytes (carried bytes) arguments files h.are_bytes (front-none bytes p.0, refl) h.are_words h.are_files;
        alike = alike-itself (run_world bytes arguments files);
      })

  promised : Promised (plain_program_by (profile bytes version) version bytes arguments) file arguments files
  promised = by_profile (profile bytes version) refl h.opens
    where
      by_profile : (o : Result Image Refusal) → profile bytes version ≡ o → run_file_by o regions version bytes ≡ Ok file → Promised (plain_program_by o version bytes arguments) file arguments files
      by_profile (Ok image) e opens = rewritten-now image e (let same = opens in cc)
      by_profile (Err Already) e opens = rewritten-before Already opens
      by_profile (Err why) e opens = absurd (let bad = opens in cc)

-- ---- the laws

pub run_worlds_are_accepted : RunWorldsAreAccepted
run_worlds_are_accepted regions version bytes file arguments files h = (promised regions version bytes file arguments files h).accepted

pub runs_are_as_plain : RunsAreAsPlain
runs_are_as_plain regions version bytes file arguments files h pattern turns ending ms old new to =
    let p = promised regions version bytes file arguments files h in
    alike-IsAsPlain _ (run_world file arguments files) ending old new refl p.alike (moves_are_as_plain pattern turns ending (run_world file arguments files) ms old new p.accepted to)

-- a program whose plain run is that of another comes to the same end
alike-ComesTo : (v w : World) (n : ℕ) (end : Ending) → v.files ≡ w.files → SamePlain v w → ComesTo v.image v.files n end → ComesTo w.image w.files n end
alike-ComesTo v w n end files same h =
    record {
      state = h.state;
      reached = same.state all_taken n ∙ h.reached;
      ends = subst (λ e. IsEnd e end) (sym (same.end all_taken h.state)) h.ends;
    }

pub runs_finish : RunsFinish
runs_finish regions version bytes file arguments files h pattern turns ending ms old new to out err n end comes enough =
    let p = promised regions version bytes file arguments files h in
    moves_finish pattern turns ending (run_world file arguments files) ms old new p.accepted to out err n end
    (alike-ComesTo _ (run_world file arguments files) n end refl p.alike comes) enough

pub runs_get_on : RunsGetOn
runs_get_on regions version bytes file arguments files h pattern turns ending ms old new to =
    moves_get_on pattern turns ending (run_world file arguments files) ms old new (promised regions version bytes file arguments files h).accepted to
