use Rattle.std.proofs.Common.{◌≡◌, ℕ, ◌+◌, List, Option, refl, add-one}
use Rattle.elf_image.specs.declared.sections.SectionHeader.{SectionHeader}
use Rattle.elf_image.specs.declared.sections.Span.{Span}
use Rattle.elf_image.specs.Sections.{section_at, joined, sections_span}

-- the span of the sections goes on by one of them
pub sections_span-next : (n : ℕ) (bytes : List ℕ) (span next : Option Span) (s : SectionHeader)
    → span ≡ sections_span n bytes → s ≡ section_at n bytes → next ≡ joined span s → next ≡ sections_span (n + 1) bytes
sections_span-next n bytes span next s so_far here is = rw (add-one, is, so_far, here) refl
