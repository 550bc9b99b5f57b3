-- What every accepted command line keeps to (this project's own).
use Rattle.std.specs.Prelude.{ℕ, ◌+◌, ◌≤◌, List, [], length, All, slice_index_or}
use Rattle.std.specs.List.{sum_by}
use Rattle.command_words.specs.declared.options.Options.{Options}
use Rattle.command_words.specs.declared.request.Request.{Request}
use Rattle.command_words.specs.Values.{Pattern}

-- a number from `least` to `most`
abbrev pub IsBetween : ℕ → ℕ → ℕ → Type 0
IsBetween least most number = (least ≤ number) × (number ≤ most)

-- 1 to 65,536 items with counts of 1 to 1,000,000
pub record IsPattern (pattern : Pattern) : Type 0 where
  pub items : IsBetween 1 65_536 (length pattern)
  pub counts : All (λ item. IsBetween 1 1_000_000 item.1) pattern

-- the numbers of the options lie between their bounds
pub record AreOptions (options : Options) : Type 0 where
  pub turns : IsBetween 1 1_000_000_000_000_000 options.turns
  pub regions : IsBetween 1 65_536 options.regions
  pub pattern : IsPattern options.pattern
  pub blocks : IsBetween 1 65_536 options.blocks
  pub depth : IsBetween 1 65_536 options.depth
  pub every : IsBetween 1 1_000_000_000_000_000 options.every

-- 1 to 64 words, of which the first is a file's name, of at most 65,536 bytes with a zero byte behind each
pub record AreArguments (words : List (List ℕ)) : Type 0 where
  pub count : IsBetween 1 64 (length words)
  pub name : IsBetween 1 255 (length (slice_index_or words 0 []))
  pub short : sum_by (λ word. length word + 1) words ≤ 65_536

-- a request keeps to all limits
pub record IsWithinLimits (request : Request) : Type 0 where
  pub options : AreOptions request.options
  pub arguments : AreArguments request.arguments
  pub number : request.number ≤ 200_000
