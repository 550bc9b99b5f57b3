-- The rewriting of what a rewritten file carries, and the answers of reading it back.
use Rattle.std.proofs.Common.{◌≡◌, ℕ, ◌==◌, Bool, true, false, List, length, map, Option, Some, None, Ok, Err, sym, ap, subst, refl, ◌∙◌}
use Rattle.std.proofs.lemmas.List.{length-map}
use Rattle.spec_base.specs.declared.layout.Layout.{Layout}
use Rattle.elf_image.specs.declared.recovery.Part.{Part}
use Rattle.elf_image.specs.declared.recovery.Part.TheVariants.{Length}
use Rattle.elf_image.specs.declared.recovery.Recovered.{Recovered}
use Rattle.elf_image.specs.declared.recovery.RecoverFault.{RecoverFault}
use Rattle.elf_image.specs.declared.recovery.RecoverFault.TheVariants.{Damaged, NoMemory}
use Rattle.elf_image.specs.Image.{text_words}
use Rattle.elf_image.specs.Recovery.{IsRecovered, RecoversAs, front_damage, carried}
use Rattle.elf_writer.specs.RewrittenFile.{Code, IsCodeOf, rewritten_file}
use Rattle.elf_writer.specs.ProgramCode.{code_of_text, ungated_word, rewritten_again}
use Rattle.elf_writer.specs.PartPlaces.{part_at}
use Rattle.elf_writer.proofs.Rewritable.{code_of_text-IsCodeOf, text_words-length}
use Rattle.rewriter.specs.Layouts.{layout_of}
use Rattle.rewriter.specs.Sources.{Source, code_from, originals}
use Rattle.rewritten_reader.specs.Damage.{first_difference, by_difference, body_damage, earlier, first_damage, recovered_unless, recovered, ReadsBackAs}
use Rattle.rewritten_reader.proofs.MatchLemmas.{same-files, same-test}

layout-is : (bytes : List ℕ) (r : Recovered) → IsRecovered bytes r → layout_of r.image r.layout.regions r.layout.version ≡ r.layout
layout-is bytes r h = λ i. record { text_start = sym h.text_start i; text_end = sym h.text_end i; regions = r.layout.regions; version = r.layout.version }

pub code-is : (bytes : List ℕ) (r : Recovered) (source : Source) → IsRecovered bytes r
    → source ≡ record { layout = layout_of r.image r.layout.regions r.layout.version; words = originals true (text_words bytes r.image) }
    → code_from source ≡ code_of_text r.layout (map ungated_word (text_words bytes r.image))
code-is bytes r source h is = ap code_from is ∙ ap (λ (l : Layout). code_of_text l (map ungated_word (text_words bytes r.image))) (layout-is bytes r h)

pub IsCodeOf-again : (bytes : List ℕ) (r : Recovered) (source : Source) → IsRecovered bytes r
    → source ≡ record { layout = layout_of r.image r.layout.regions r.layout.version; words = originals true (text_words bytes r.image) }
    → IsCodeOf r.layout (code_from source)
IsCodeOf-again bytes r source h is =
    subst (λ (c : Code). IsCodeOf r.layout c) (sym (code-is bytes r source h is))
    (code_of_text-IsCodeOf r.layout (map ungated_word (text_words bytes r.image))
    (length-map (text_words bytes r.image) ungated_word ∙ text_words-length bytes r.image r.layout h.image h.text_start h.text_end))

pub file-is : (bytes : List ℕ) (r : Recovered) (source : Source) → IsRecovered bytes r
    → source ≡ record { layout = layout_of r.image r.layout.regions r.layout.version; words = originals true (text_words bytes r.image) }
    → rewritten_file bytes r.image r.layout (code_from source) ≡ rewritten_again bytes r.image r.layout
file-is bytes r source h is = ap (rewritten_file bytes r.image r.layout) (code-is bytes r source h is)

-- ---- answers

pub front-fault : (bytes : List ℕ) (e : RecoverFault) → RecoversAs bytes (Err e) → ReadsBackAs bytes (Err e)
unfolding first_damage
front-fault bytes (Damaged p) h = ap (λ (d : Option Part). recovered_unless (earlier d (body_damage bytes (carried bytes))) (carried bytes)) h
front-fault bytes NoMemory h = h

decided : (bytes : List ℕ) (r : Recovered) (d : Option ℕ) (b : Bool) → front_damage bytes ≡ None → r ≡ carried bytes
    → first_difference (rewritten_again bytes r.image r.layout) bytes ≡ d → (length (rewritten_again bytes r.image r.layout) == length bytes) ≡ b
    → recovered bytes ≡ recovered_unless (by_difference r.image r.layout d b) r
unfolding first_damage
decided bytes r d b none is differs long =
    ap (λ (p : Option Part). recovered_unless (earlier p (body_damage bytes (carried bytes))) (carried bytes)) none
    ∙ ap (λ (s : Recovered). recovered_unless (body_damage bytes s) s) (sym is)
    ∙ ap (λ (e : Option ℕ). recovered_unless (by_difference r.image r.layout e (length (rewritten_again bytes r.image r.layout) == length bytes)) r) differs
    ∙ ap (λ (c : Bool). recovered_unless (by_difference r.image r.layout d c) r) long

pub same-read : (bytes : List ℕ) (r : Recovered) → RecoversAs bytes (Ok r) → rewritten_again bytes r.image r.layout ≡ bytes → recovered bytes ≡ Ok r
same-read bytes r h e =
    decided bytes r None true h.0 h.1 (ap (λ (t : List ℕ). first_difference t bytes) e ∙ same-files bytes)
    (ap (λ (t : List ℕ). length t == length bytes) e ∙ same-test (length bytes))

pub other-read : (bytes : List ℕ) (r : Recovered) (at : ℕ) (p : Part) → RecoversAs bytes (Ok r)
    → first_difference (rewritten_again bytes r.image r.layout) bytes ≡ Some at → p ≡ part_at r.image r.layout at → recovered bytes ≡ Err p
other-read bytes r at p h e is = decided bytes r (Some at) _ h.0 h.1 e refl ∙ ap (λ (q : Part). Err q) (sym is)

pub length-read : (bytes : List ℕ) (r : Recovered) → RecoversAs bytes (Ok r)
    → first_difference (rewritten_again bytes r.image r.layout) bytes ≡ None → (length (rewritten_again bytes r.image r.layout) == length bytes) ≡ false
    → recovered bytes ≡ Err Length
length-read bytes r h e long = decided bytes r None false h.0 h.1 e long
