-- What opening a file for `run` comes to, by the kind of file.
use Rattle.std.proofs.Common.{◌≡◌, ℕ, ◌≤◌, ◌<◌, Bool, true, List, [], ◌++◌, Option, Some, None, Ok, Err, refl, ap, sym, ◌∙◌, subst, arith}
use Rattle.std.proofs.lemmas.List.{append-nil}
use Rattle.spec_base.specs.declared.layout.Version.{Version}
use Rattle.world_io.specs.Buffers.{BufSinkState, told_of_buf}
use Rattle.world_io.specs.Logs.{bytes_of}
use Rattle.world_io.specs.Texts.{PutsText, IsPutSurely}
use Rattle.world_io.proofs.Sinks.{log-bytes, part-PutsText}
use Rattle.elf_image.specs.declared.refusal.Refusal.TheVariants.{Already}
use Rattle.elf_image.specs.declared.recovery.Part.{Part}
use Rattle.elf_image.specs.declared.recovery.Recovered.{Recovered}
use Rattle.elf_writer.specs.declared.source.Parts.{Parts}
use Rattle.elf_writer.specs.FileParts.{file_length}
use Rattle.elf_writer.specs.RewrittenFile.{rewritten_file}
use Rattle.elf_writer.specs.ProgramCode.{code_of_text}
use Rattle.elf_writer.specs.Writing.{listed}
use Rattle.elf_image.specs.Image.{text_words}
use Rattle.rewriter.specs.Layouts.{rewritten}
use Rattle.rewriter.specs.Rewriting.{ArePartsOf}
use Rattle.rewritten_reader.specs.Damage.{recovered_unless}
use Rattle.file_runs.specs.Runs.{unless_damaged}
use Rattle.run_commands.specs.Opens.{HoldsRewritten}

-- ---- the buffer

-- an empty buffer
abbrev pub empty : ℕ → BufSinkState
empty room = record { bytes = []; left = room; faults = 0 }

-- a buffer into which a text was put whole holds it
buffered : (room : ℕ) (end : BufSinkState) (text : List ℕ) → PutsText (told_of_buf (empty room)) text true (told_of_buf end) → end.bytes ≡ text
buffered room end text puts =
    let part = part-PutsText (told_of_buf (empty room)) (told_of_buf end) text true puts in
    let all : bytes_of puts.pieces ≡ text = sym (append-nil (bytes_of puts.pieces)) ∙ ap (λ r. bytes_of puts.pieces ++ r) (sym (part.none refl)) ∙ part.parts in
    let held : Some end.bytes ≡ Some (bytes_of puts.pieces) = log-bytes (told_of_buf (empty room)) (told_of_buf end) puts.pieces puts.fault puts.log in
    let same : end.bytes ≡ bytes_of puts.pieces = cc in
    same ∙ all

-- the file of these parts is the rewritten file
parts-rewritten : (bytes : List ℕ) (regions : ℕ) (version : Version) (parts : Parts) → ArePartsOf bytes regions version parts
    → rewritten_file bytes parts.image parts.layout (listed parts) ≡ rewritten bytes parts.image regions version
parts-rewritten bytes regions version parts are =
    ap (rewritten_file bytes parts.image parts.layout) are.code
    ∙ ap (λ l. rewritten_file bytes parts.image l (code_of_text l (text_words bytes parts.image))) are.layout

-- a buffer of the file's length holds the rewritten file of these parts
pub parts-HoldsRewritten : (bytes : List ℕ) (regions : ℕ) (version : Version) (parts : Parts) (room : ℕ) (end : BufSinkState) (whole : Bool) → ArePartsOf bytes regions version parts
    → room ≡ file_length parts.image parts.layout → IsPutSurely (told_of_buf (empty room)).room (file_length parts.image parts.layout) whole
    → PutsText (told_of_buf (empty room)) (rewritten_file bytes parts.image parts.layout (listed parts)) whole (told_of_buf end)
    → HoldsRewritten bytes regions version (Ok end)
parts-HoldsRewritten bytes regions version parts room end whole are long sure puts =
    let all : whole ≡ true = sure (omega arith) in
    let file = rewritten_file bytes parts.image parts.layout (listed parts) in
    let put = subst (λ (b : Bool). PutsText (told_of_buf (empty room)) file b (told_of_buf end)) all puts in
    (parts.image, are.accepted, buffered room end file put ∙ parts-rewritten bytes regions version parts are)

-- ---- kinds of file

-- an undamaged file
undamaged : (d : Option Part) (r x : Recovered) → recovered_unless d r ≡ Ok x → d ≡ None
undamaged None r x e = refl
undamaged (Some p) r x e = absurd (let bad = e in cc)

-- a file of which damage isn't excluded is refused as a rewritten one
damaged : (d : Option Part) (bytes : List ℕ) → (d ≡ None → ⊥) → unless_damaged d bytes ≡ Err Already
damaged None bytes never = absurd (never refl)
damaged (Some p) bytes never = refl
