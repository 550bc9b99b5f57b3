-- What the parts of the command `demo` say together.
use Rattle.std.proofs.Common.{◌≡◌, ℕ, ◌<◌, ◌^◌, ◌==◌, Bool, true, false, List, [], ◌∷◌, ◌++◌, length, codes, Some, None, Ok, refl, ap, sym, ◌∙◌, subst, arith, if◌then◌else◌}
use Rattle.std.proofs.lemmas.List.{append_assoc}
use Rattle.std.specs.Cmp.Lexicographic.{pointwise}
use Rattle.world_io.specs.Outside.{StoreState, SinkState, no_files, with_file}
use Rattle.world_io.specs.Buffers.{BufSinkState, told_of_buf}
use Rattle.trace_text.specs.declared.reporting.Counts.{Counts}
use Rattle.sample_images.specs.Demos.{demo_image, data_bytes}
use Rattle.sample_images.proofs.Data.{data_bytes-length, data_bytes-small}
use Rattle.run_model.specs.Run.{World, Run}
use Rattle.run_model.specs.Moves.{run}
use Rattle.run_laws.specs.OwnLaws.{AllBytes}
use Rattle.plain_runner.specs.Runs.{Outside}
use Rattle.plain_runner.specs.declared.ending.Ending.{Ending}
use Rattle.run_promises.specs.Schedules.{MovesTo}
use Rattle.file_world.specs.Worlds.{AreFiles}
use Rattle.runner.specs.Shows.{Shows}
use Rattle.runner.specs.declared.runner.Runner.{Runner}
use Rattle.program_driver.specs.Runs.{Drives, counts_of}
use Rattle.command_words.specs.declared.request.Request.{Request}
use Rattle.run_commands.specs.Run.{asked_file}
use Rattle.run_commands.specs.Opens.{StandsBefore}
use Rattle.run_commands.specs.Demo.{demo_files, demo_world, demo_outside, demo_line, has_ended, IsDemoLine}
use Rattle.run_commands.proofs.Running.{opened-now}

-- ---- the file that the program reads

-- a file that is there by a test is this one
by_test : (b : Bool) (those bytes : List ℕ) → (if b then Some those else None) ≡ Some bytes → those ≡ bytes
by_test true those bytes e = cc
by_test false those bytes e = absurd (let bad = e in cc)

-- one file is as files are
one-AreFiles : (file those : List ℕ) → length those < 2 ^ 56 → AllBytes those → AreFiles (with_file no_files file those)
one-AreFiles file those few small name bytes e =
    let same : those ≡ bytes = by_test (pointwise ◌==◌ file name) those bytes e in
    (subst (λ b. length b < 2 ^ 56) same few, subst (λ b. AllBytes b) same small)

-- so many bytes of it are few
few_bytes : (n : ℕ) → n < 2 ^ 56 → length (data_bytes 0 n) < 2 ^ 56
few_bytes n few = subst (λ k. k < 2 ^ 56) (sym (data_bytes-length 0 n)) few

-- it is as files are
pub demo-AreFiles : AreFiles demo_files
demo-AreFiles = one-AreFiles (codes "data") (data_bytes 0 163_840) (few_bytes 163_840 (omega arith)) (data_bytes-small 0 163_840)

-- ---- the line

-- pieces that were added one by one
pub joined : (a b c d e f g h i j : List ℕ) →
    ((((((a ++ b) ++ (c ++ d)) ++ (e ++ f)) ++ (g ++ h)) ++ i) ++ j) ≡ a ++ b ++ c ++ d ++ e ++ f ++ g ++ h ++ i ++ j
joined a b c d e f g h i j =
    let four : a ++ b ++ (c ++ d) ≡ a ++ b ++ c ++ d = sym (append_assoc (a ++ b) c d) in
    let six : a ++ b ++ (c ++ d) ++ (e ++ f) ≡ a ++ b ++ c ++ d ++ e ++ f = ap (λ x. x ++ (e ++ f)) four ∙ sym (append_assoc (a ++ b ++ c ++ d) e f) in
    let eight : a ++ b ++ (c ++ d) ++ (e ++ f) ++ (g ++ h) ≡ a ++ b ++ c ++ d ++ e ++ f ++ g ++ h =
    ap (λ x. x ++ (g ++ h)) six ∙ sym (append_assoc (a ++ b ++ c ++ d ++ e ++ f) g h) in
    ap (λ x. x ++ i ++ j) eight

-- a store and two sinks that are these
pub outside-same : (a b : StoreState) (c d e f : SinkState) → a ≡ b → c ≡ d → e ≡ f
    → ◌≡◌ {A = Outside} (record { store = a; out = c; err = e }) (record { store = b; out = d; err = f })
outside-same a b c d e f one two three = rw (one, two, three) refl

-- the moves of an opened file, with what a runner and the buffer say of them, give the line
pub driven-IsDemoLine : (r : Request) (file : List ℕ) (out : BufSinkState) (first last : Runner) (ending : Ending) (counts : Counts) (before_moves after : Outside) (line : List ℕ)
    → asked_file r (demo_image r.number) ≡ Ok file → StandsBefore file (codes "demo" ∷ []) first → has_ended ending ≡ true
    → before_moves ≡ demo_outside → Drives (MovesTo r.options.pattern r.options.turns ending) first last before_moves after
    → ((w : World) (s : Run) → Shows last w s → counts ≡ counts_of s) → after.out ≡ told_of_buf out
    → line ≡ demo_line r.number (length file) (length out.bytes) counts → IsDemoLine r line
driven-IsDemoLine r file out first last ending counts before_moves after line opens before ended same given counted outs is =
    let drives = subst (λ o. Drives (MovesTo r.options.pattern r.options.turns ending) first last o after) same given in
    let w = demo_world file in
    let stands = before.stands demo_files demo-AreFiles in
    let went = drives.went w stands.accepted (opened-now first w stands.shows) (drives.told demo_files refl) in
    record {
      file = file;
      opens = opens;
      reached = ending;
      ended = ended;
      moves = drives.moves;
      after = after;
      went = went.0;
      put = out.bytes;
      puts = ap (λ o. o.bytes) outs;
      told = is ∙ ap (λ c. demo_line r.number (length file) (length out.bytes) c) (counted w (run w drives.moves) went.1);
    }
