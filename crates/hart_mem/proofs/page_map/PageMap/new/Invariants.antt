use Rattle.std.proofs.Common.{◌≡◌, ℕ, Option, None, get_or, vec_len}
use Rattle.hart_mem.proofs.page_map.PageMap.new.Given as goal

-- each page so far has no frame
abbrev pub invariant-loop : goal.invariant-loop
invariant-loop l = record {
  len : vec_len l.table ≡ l.counter;
  none : (page : ℕ) → let nothing : Option ℕ = None in get_or l.table.items page nothing ≡ nothing;
}
