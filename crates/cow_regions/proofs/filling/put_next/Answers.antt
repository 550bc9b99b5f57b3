use Rattle.std.proofs.Common.{◌≡◌, ◌+◌, ◌∙◌, ℕ, get_or, refl, ap, arith}
use Rattle.spec_base.specs.Word.{byte_of}
use Rattle.rv_model.specs.Memory.{Memory}
use Rattle.rv_model.specs.Space.{Space}
use Rattle.code_model.specs.Regions.{slot_address}
use Rattle.hart_mem.specs.Held.{space_of}
use Rattle.cow_regions.proofs.RangeBytes.{patched-alike, stored-byte}
use Rattle.cow_regions.proofs.SharedNumbers.{copy-number}
use Rattle.cow_regions.proofs.filling.put_next.Goals as goal

pub put-requires : goal.put-requires
put-requires c = copy-number (space_of c.args.mem.now).layout c.args.slot c.args.offset 8 (omega arith) c.requires.slot (omega (arith, c.requires.fits, c.if-bytes-ge8.true)) (omega (arith, c.if-offset-eq0.true))

pub returns-then-bytes-ge8-clause-space : goal.returns-then-bytes-ge8-clause-space
returns-then-bytes-ge8-clause-space c =
    let s : Space = space_of c.args.mem.now in
    c.put.ensures.space ∙ ap (λ (m : Memory). record s { shared = m }) (patched-alike s.shared (slot_address c.args.slot + c.args.offset) 8 (byte_of c.first_number.result) (λ i. get_or c.args.bytes.now i 0) c.first_number.ensures)

pub put-requires-2 : goal.put-requires-2
put-requires-2 c = copy-number (space_of c.args.mem.now).layout c.args.slot c.args.offset 1 (omega arith) c.requires.slot (omega (arith, c.requires.fits, c.requires.some)) (omega arith)

pub returns-clause-space : goal.returns-clause-space
returns-clause-space c =
    let s : Space = space_of c.args.mem.now in
    let first : ℕ = get_or c.args.bytes.now 0 0 in
    c.put-2.ensures.space ∙ ap (λ (m : Memory). record s { shared = m }) (stored-byte s.shared (slot_address c.args.slot + c.args.offset) first (omega (arith, c.type_inv.bytes 0)) ∙ patched-alike s.shared (slot_address c.args.slot + c.args.offset) 1 (λ i. first) (λ i. get_or c.args.bytes.now i 0) (λ i h. at-zero i (omega arith)))
  where
    at-zero : (i : ℕ) → i ≡ 0 → get_or c.args.bytes.now 0 0 ≡ get_or c.args.bytes.now i 0
    at-zero i e = rw e refl
