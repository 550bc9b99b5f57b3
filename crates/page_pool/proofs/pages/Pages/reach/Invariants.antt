use Rattle.std.proofs.Common.{◌≡◌, ◌≤◌, ◌+◌, ◌-◌, ◌++◌, length, replicate, vec_len, vec_capacity}
use Rattle.page_pool.specs.Pages.{blank_page}
use Rattle.page_pool.proofs.pages.Pages.reach.Given as goal

abbrev pub invariant-loop : goal.invariant-loop
invariant-loop l = record {
  count : vec_len l.self-inside.pages ≡ l.counter;
  pages : l.self-inside.pages.items ≡ l.initial.self-inside.pages.items ++ replicate (l.counter - length l.initial.self-inside.pages.items) blank_page;
  past : l.at + 1 ≤ length l.initial.self-inside.pages.items → l.counter ≡ length l.initial.self-inside.pages.items;
  capacity : vec_capacity l.self-inside.pages ≡ vec_capacity l.initial.self-inside.pages;
}
