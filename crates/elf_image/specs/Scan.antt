-- What one pass over the program header table keeps (this project's own). It is no part of the profile: `IsScan` ties it to that.
use Rattle.std.specs.Prelude.{◌≡◌, ℕ, ◌+◌, ◌&&◌, ◌||◌, ◌==◌, ◌≤◌, nat_lt, max, cond, if◌then◌else◌, List, length, find, count_by, Option, Some, None, Result, Ok, Err}
use Rattle.std.specs.Option.{option_or}
use Rattle.std.specs.List.{list_any}
use Rattle.elf_image.specs.declared.segments.ProgramHeader.{ProgramHeader}
use Rattle.elf_image.specs.declared.segments.Segment.{Segment}
use Rattle.elf_image.specs.declared.scan.Scan.{Scan}
use Rattle.elf_image.specs.declared.refusal.Refusal.{Refusal}
use Rattle.elf_image.specs.declared.refusal.Refusal.TheVariants.{Dynamic, Already, Segment as Misplaced, NoText}
use Rattle.elf_image.specs.Segments.{first_entries, is_dynamic, is_record, is_loaded, is_passed_over, segment_of, segments_in, end_of, highest_end, is_misplaced, are_misplaced, is_code}

-- the scan after one more entry
abbrev pub seen : ℕ → ℕ → Scan → ProgramHeader → Scan
seen limit file_length scan e =
    let s = segment_of e in
    record {
      dynamic = scan.dynamic || is_dynamic e;
      rewritten = scan.rewritten || is_record e;
      skipped = scan.skipped || is_passed_over e;
      misplaced = scan.misplaced || (is_loaded e && (is_misplaced limit file_length s || nat_lt s.address scan.reached));
      reached = cond (is_loaded e) (max scan.reached (end_of s)) scan.reached;
      code_segments = cond (is_loaded e && is_code s) (scan.code_segments + 1) scan.code_segments;
      code = cond (is_loaded e && is_code s) (option_or scan.code (Some s)) scan.code;
    }

-- the scan of the first n entries of a table
pub record IsScan (limit : ℕ) (bytes : List ℕ) (start n : ℕ) (scan : Scan) : Type 0 where
  pub dynamic : scan.dynamic ≡ list_any is_dynamic (first_entries start n bytes)
  pub rewritten : scan.rewritten ≡ list_any is_record (first_entries start n bytes)
  pub skipped : scan.skipped ≡ list_any is_passed_over (first_entries start n bytes)
  pub misplaced : scan.misplaced ≡ are_misplaced limit (length bytes) (segments_in (first_entries start n bytes))
  pub reached : scan.reached ≡ highest_end (segments_in (first_entries start n bytes))
  pub code_segments : scan.code_segments ≡ count_by is_code (segments_in (first_entries start n bytes))
  pub few : scan.code_segments ≤ n
  pub code : scan.code ≡ find is_code (segments_in (first_entries start n bytes))

-- the executable segment, or the first of the reasons 11 to 14: as a scan of the whole table shows it
abbrev pub only : Option Segment → ℕ → Result Segment Refusal
only (Some s) n = if n == 1 then Ok s else Err NoText
only None n = Err NoText

abbrev pub scan_answer : Scan → Result Segment Refusal
scan_answer scan =
    if scan.dynamic then Err Dynamic
    else if scan.rewritten then Err Already
    else if scan.misplaced then Err Misplaced
    else only scan.code scan.code_segments

-- the same, as the profile has it
abbrev pub answered : Option Refusal → Option Segment → Result Segment Refusal
answered (Some e) code = Err e
answered None (Some s) = Ok s
answered None None = Err NoText
