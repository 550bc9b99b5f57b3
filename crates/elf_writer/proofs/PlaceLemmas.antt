-- Where the parts of the rewritten file stand in it.
use Rattle.std.proofs.Common.{◌≡◌, ℕ, ◌+◌, ◌-◌, ◌*◌, ◌<◌, ◌≤◌, List, [], ◌∷◌, ◌++◌, length, take, replicate, arith, sym, ap, subst, refl, ◌∙◌, append_assoc, length-append}
use Rattle.std.proofs.lemmas.List.{take_at, drop_at, length-replicate}
use Rattle.elf_writer.specs.declared.part.Part.{Part}
use Rattle.elf_writer.specs.Headers.{header_bytes, entry_bytes}
use Rattle.elf_writer.specs.FileParts.{file_header, table_bytes, record_entry, record_start, record_bytes, body_start, body_from, placed, entries_from, file_parts, file_offset, end_of_part}
use Rattle.elf_writer.specs.RewrittenFile.{contents, rewritten_file}
use Rattle.elf_writer.specs.Places.{StandsAt, PartsStand, EachStands}
use Rattle.elf_writer.proofs.FileLemmas.{HaveContents, placed-length, placed-some, file_contents, entries_from-length, file_parts-length}

-- what stands behind a front
StandsAt-behind : (front content back : List ℕ) (offset : ℕ) → length front ≡ offset → StandsAt offset content (front ++ (content ++ back))
StandsAt-behind front content back offset e =
    ap (take (length content)) (drop_at front (content ++ back) offset e) ∙ take_at content back (length content) refl

-- a part with bytes stands behind its gap
part-StandsAt : (cursor : ℕ) (p : Part) (content front back : List ℕ) → length front ≡ cursor → 0 < p.p_filesz
    → StandsAt (file_offset cursor p.p_vaddr) content (front ++ (placed cursor p content ++ back))
part-StandsAt cursor p content front back e some =
    let gap : List ℕ = replicate (file_offset cursor p.p_vaddr - cursor) 0 in
    let all : (front ++ gap) ++ (content ++ back) ≡ front ++ (placed cursor p content ++ back) =
    append_assoc front gap (content ++ back) ∙ ap (λ w. front ++ w) (sym (append_assoc gap content back))
    ∙ ap (λ w. front ++ (w ++ back)) (placed-some cursor p content some) in
    let after : cursor ≤ file_offset cursor p.p_vaddr = omega arith in
    let long : length (front ++ gap) ≡ file_offset cursor p.p_vaddr =
    length-append front gap ∙ (let zeros = length-replicate {A = ℕ} (file_offset cursor p.p_vaddr - cursor) 0 in omega (arith, e, zeros, after)) in
    subst (StandsAt (file_offset cursor p.p_vaddr) content) all (StandsAt-behind (front ++ gap) content back (file_offset cursor p.p_vaddr) long)

-- the parts stand behind a front that ends at the cursor
parts-PartsStand : (cursor : ℕ) (ps : List Part) (cs : List (List ℕ)) (front : List ℕ) → length front ≡ cursor → HaveContents ps cs
    → PartsStand cursor ps cs (front ++ body_from cursor ps cs)
parts-PartsStand cursor [] cs front e h = tt
parts-PartsStand cursor (p ∷ ps) [] front e h = tt
parts-PartsStand cursor (p ∷ ps) (c ∷ cs) front e h =
    let rest : List ℕ = body_from (end_of_part cursor p) ps cs in
    let size = placed-length cursor p c h.0 in
    let long : length (front ++ placed cursor p c) ≡ end_of_part cursor p = length-append front (placed cursor p c) ∙ omega (arith, e, size) in (
      sym h.0,
      (λ some. part-StandsAt cursor p c front rest e some),
      subst (PartsStand (end_of_part cursor p) ps cs) (append_assoc front (placed cursor p c) rest) (parts-PartsStand (end_of_part cursor p) ps cs (front ++ placed cursor p c) long h.1),
    )

-- header, table, record and parts stand one after another
pub each_stands : EachStands
unfolding rewritten_file
each_stands bytes image l code h lists =
    let header : List ℕ = header_bytes (file_header image) in
    let table : List ℕ = table_bytes image l in
    let record_part : List ℕ = record_bytes l in
    let body : List ℕ = body_from (body_start image) (file_parts image l) (contents bytes image code) in
    let table_long : length table ≡ 56 * (length image.segments + 8) =
    length-append (entry_bytes (record_entry image)) (entries_from (body_start image) (file_parts image l))
    ∙ (let entries = entries_from-length (body_start image) (file_parts image l) in let parts = file_parts-length image l in omega (arith, entries, parts)) in
    let two : length (header ++ table) ≡ record_start image = length-append header table ∙ omega (arith, table_long) in
    let three : length ((header ++ table) ++ record_part) ≡ body_start image = length-append (header ++ table) record_part ∙ omega (arith, two) in
    let one_file : header ++ (table ++ (record_part ++ body)) ≡ ((header ++ table) ++ record_part) ++ body =
    sym (append_assoc header table (record_part ++ body)) ∙ sym (append_assoc (header ++ table) record_part body) in
    let two_file : (header ++ table) ++ (record_part ++ body) ≡ ((header ++ table) ++ record_part) ++ body = sym (append_assoc (header ++ table) record_part body) in
    record {
      header = subst (StandsAt 0 header) one_file (StandsAt-behind [] header (table ++ (record_part ++ body)) 0 refl);
      table = subst (StandsAt 64 table) one_file (StandsAt-behind header table (record_part ++ body) 64 refl);
      record_part = subst (StandsAt (record_start image) record_part) two_file (StandsAt-behind (header ++ table) record_part body (record_start image) two);
      parts = parts-PartsStand (body_start image) (file_parts image l) (contents bytes image code) ((header ++ table) ++ record_part) three (file_contents bytes image l code h lists);
    }
