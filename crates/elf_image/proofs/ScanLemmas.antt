-- A scan goes on by one entry.
use Rattle.std.proofs.Common.{◌≡◌, ℕ, suc, ◌+◌, ◌≤◌, ◌&&◌, ◌||◌, Bool, true, false, cond, List, [], ◌∷◌, ◌++◌, length, refl, arith, add-one}
use Rattle.std.proofs.Math.Bool.{or-false}
use Rattle.std.specs.List.{list_any}
use Rattle.std.proofs.lemmas.List.Folds.{list_any-append}
use Rattle.elf_image.specs.declared.segments.ProgramHeader.{ProgramHeader}
use Rattle.elf_image.specs.declared.scan.Scan.{Scan}
use Rattle.elf_image.specs.Segments.{entry_at, first_entries, is_dynamic, is_record, is_loaded, is_passed_over, segment_of, segments_in, is_code}
use Rattle.elf_image.specs.Scan.{seen, IsScan}
use Rattle.elf_image.proofs.SegmentLemmas.{segments_in-more, are_misplaced-more, highest_end-more, count-more, find-more}

any-more : (p : ProgramHeader → Bool) (es : List ProgramHeader) (e : ProgramHeader) → list_any p (es ++ e ∷ []) ≡ (list_any p es || p e)
any-more p es e = rw (list_any-append p es (e ∷ []), or-false (p e)) refl

few-more : (b : Bool) (k n : ℕ) → k ≤ n → cond b (k + 1) k ≤ suc n
few-more true k n h = omega arith
few-more false k n h = omega arith

pub IsScan-more : (limit : ℕ) (bytes : List ℕ) (start n : ℕ) (scan : Scan) → IsScan limit bytes start n scan
    → IsScan limit bytes start (suc n) (seen limit (length bytes) scan (entry_at start n bytes))
IsScan-more limit bytes start n scan h =
    let es = first_entries start n bytes in
    let e = entry_at start n bytes in
    let ss = segments_in es in
    let s = segment_of e in
    let b = is_loaded e in
    record {
      dynamic = rw (any-more is_dynamic es e, h.dynamic) refl;
      rewritten = rw (any-more is_record es e, h.rewritten) refl;
      skipped = rw (any-more is_passed_over es e, h.skipped) refl;
      misplaced = rw (segments_in-more es e, are_misplaced-more limit (length bytes) ss s b, h.misplaced, h.reached) refl;
      reached = rw (segments_in-more es e, highest_end-more ss s b, h.reached) refl;
      code_segments = rw (segments_in-more es e, count-more ss s b, h.code_segments) refl;
      few = few-more (b && is_code s) scan.code_segments n h.few;
      code = rw (segments_in-more es e, find-more ss s b, h.code) refl;
    }

-- the same at the code's next number
pub IsScan-next : (limit : ℕ) (bytes : List ℕ) (start n : ℕ) (scan next : Scan) (e : ProgramHeader) → IsScan limit bytes start n scan
    → e ≡ entry_at start n bytes → next ≡ seen limit (length bytes) scan e → IsScan limit bytes start (n + 1) next
IsScan-next limit bytes start n scan next e h here is = rw (add-one, is, here) (IsScan-more limit bytes start n scan h)
