-- What rewriting to a sink came to, where the profile's answer is known.
use Rattle.std.proofs.Common.{◌≡◌, ◌≢◌, ◌∙◌, ℕ, true, List, ◌++◌, length, Option, Some, None, IfSome, Result, Ok, Err, refl, sym, ap, subst}
use Rattle.std.specs.Option.{option_map}
use Rattle.std.proofs.lemmas.List.{append-nil}
use Rattle.spec_base.specs.declared.layout.Version.{Version}
use Rattle.world_io.specs.Outside.{SinkState}
use Rattle.world_io.specs.Puts.{Fits}
use Rattle.world_io.specs.Logs.{bytes_of}
use Rattle.world_io.specs.Texts.{PutsText}
use Rattle.world_io.proofs.Sinks.{log-bytes, IsPart, part-PutsText}
use Rattle.elf_image.specs.Profile.{profile}
use Rattle.elf_image.specs.declared.image.Image.{Image}
use Rattle.elf_image.specs.declared.refusal.Refusal.{Refusal}
use Rattle.rewriter.specs.Layouts.{rewritten}
use Rattle.rewriter.specs.Rewriting.{RewritesTo}
use Rattle.rewriter.specs.declared.writing.Rewritten.{Rewritten}
use Rattle.rewriter.specs.declared.writing.Rewritten.TheVariants.{Done, Refused, SinkFault, NoMemory}

-- a file isn't both accepted and refused
not-both : (given : Result Image Refusal) (image : Image) (why : Refusal) → given ≡ Ok image → given ≡ Err why → ⊥
not-both given image why accepted refused = (let both : Ok image ≡ Err why = sym accepted ∙ refused in cc)

module _ (bytes : List ℕ) (regions : ℕ) (version : Version) (old new : SinkState) where
  -- a refused file is answered by the first reason to refuse it, and nothing is put
  pub refused-alone : (result : Rewritten) → RewritesTo bytes regions version result old new → (why : Refusal) → profile bytes version ≡ Err why
      → (result ≡ Refused why) × (new ≡ old)
  refused-alone (Done n) to why refused = absurd (not-both _ to.0 why to.1 refused)
  refused-alone SinkFault to why refused = absurd (not-both _ to.0 why to.1 refused)
  refused-alone (Refused other) to why refused = ((let same : Err other ≡ Err why = sym to.0 ∙ refused in let equal : other ≡ why = cc in ap Refused equal), to.1)
  refused-alone NoMemory to why refused = absurd (not-both _ to.0.0 why to.0.1 refused)

  -- within the sure room no put fails
  pub sure-within : (result : Rewritten) → RewritesTo bytes regions version result old new → (image : Image) → profile bytes version ≡ Ok image
      → Fits old.room (length (rewritten bytes image regions version)) → result ≢ SinkFault
  sure-within SinkFault to image accepted fits = λ e.
      to.2.unsure (subst (λ (i : Image). Fits old.room (length (rewritten bytes i regions version))) (let same : Ok image ≡ Ok to.0 = sym accepted ∙ to.1 in let equal : image ≡ to.0 = cc in equal) fits)
  sure-within (Done n) to image accepted fits = λ e. cc
  sure-within (Refused why) to image accepted fits = λ e. cc
  sure-within NoMemory to image accepted fits = λ e. cc

-- a text that was put whole stands behind what the sink had
pub text-behind : (old new : SinkState) (text : List ℕ) → PutsText old text true new → IfSome old.bytes (λ before. new.bytes ≡ Some (before ++ text))
text-behind old new text puts = by_bytes old.bytes (log-bytes old new puts.pieces puts.fault puts.log)
  where
    part : IsPart text puts.pieces true
    part = part-PutsText old new text true puts

    all : bytes_of puts.pieces ≡ text
    all = sym (append-nil (bytes_of puts.pieces)) ∙ ap (λ (rest : List ℕ). bytes_of puts.pieces ++ rest) (sym (part.none refl)) ∙ part.parts

    by_bytes : (o : Option (List ℕ)) → new.bytes ≡ option_map (λ before. before ++ bytes_of puts.pieces) o → IfSome o (λ before. new.bytes ≡ Some (before ++ text))
    by_bytes None grew = tt
    by_bytes (Some before) grew = grew ∙ ap (λ (text : List ℕ). Some (before ++ text)) all

-- the rewritten file of an accepted file, put whole
pub whole-behind : (bytes : List ℕ) (regions : ℕ) (version : Version) (n : ℕ) (old new : SinkState) → RewritesTo bytes regions version (Done n) old new → (image : Image)
    → profile bytes version ≡ Ok image → IfSome old.bytes (λ before. new.bytes ≡ Some (before ++ rewritten bytes image regions version))
whole-behind bytes regions version n old new to image accepted =
    let same : Ok to.0 ≡ Ok image = sym to.1 ∙ accepted in
    let equal : to.0 ≡ image = cc in
    text-behind old new (rewritten bytes image regions version) (subst (λ (i : Image). PutsText old (rewritten bytes i regions version) true new) equal to.2.puts)
