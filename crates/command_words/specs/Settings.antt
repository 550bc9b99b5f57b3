-- The commands, their options, and the values that these have (this project's own).
use Rattle.std.specs.Prelude.{ℕ, Bool, true, false, if◌then◌else◌, List, [], ◌∷◌, codes, bytes_eq, Option, Some, None, option_map, unwrap_or}
use Rattle.std.specs.List.{find}
use Rattle.spec_base.specs.declared.layout.Version.TheVariants.{Two}
use Rattle.spec_base.specs.declared.note.Move.TheVariants as moves
use Rattle.command_words.specs.declared.command.Command.{Command}
use Rattle.command_words.specs.declared.command.Command.TheVariants as commands
use Rattle.command_words.specs.declared.setting.Setting.{Setting}
use Rattle.command_words.specs.declared.setting.Setting.TheVariants.{Turns, Regions, Pattern, Layout, Report, Uses, Blocks, Depth, Every}
use Rattle.command_words.specs.declared.options.Chosen.{Chosen}
use Rattle.command_words.specs.declared.options.Options.{Options}
use Rattle.command_words.specs.Values.{number_in, version_in, pattern_in, Pattern as Moves}

-- ---- tables

-- the command with this name
unfoldable pub command_named : List ℕ → Option Command
command_named word =
    if bytes_eq word (codes "plain") then Some commands.Plain
    else if bytes_eq word (codes "rewrite") then Some commands.Rewrite
    else if bytes_eq word (codes "run") then Some commands.Run
    else if bytes_eq word (codes "trace") then Some commands.Trace
    else if bytes_eq word (codes "demo") then Some commands.Demo
    else if bytes_eq word (codes "replay") then Some commands.Replay
    else if bytes_eq word (codes "plan") then Some commands.Plan
    else None

-- the options of a command
abbrev pub settings : Command → List Setting
settings commands.Plain = Turns ∷ Layout ∷ []
settings commands.Rewrite = Regions ∷ Layout ∷ []
settings commands.Run = Regions ∷ Pattern ∷ Turns ∷ Report ∷ Layout ∷ []
settings commands.Trace = Regions ∷ Pattern ∷ Turns ∷ Layout ∷ Uses ∷ []
settings commands.Demo = []
settings commands.Replay = Blocks ∷ Depth ∷ Every ∷ []
settings commands.Plan = Blocks ∷ []

-- an option's name
abbrev pub setting_name : Setting → List ℕ
setting_name Turns = codes "--turns"
setting_name Regions = codes "--regions"
setting_name Pattern = codes "--pattern"
setting_name Layout = codes "--layout"
setting_name Report = codes "--report"
setting_name Uses = codes "--uses"
setting_name Blocks = codes "--blocks"
setting_name Depth = codes "--depth"
setting_name Every = codes "--every"

-- the option of a command that has this name
unfoldable pub setting_named : Command → List ℕ → Option Setting
setting_named command word = find (λ setting. bytes_eq (setting_name setting) word) (settings command)

-- whether an option has a value
abbrev pub has_value : Setting → Bool
has_value Report = false
has_value Uses = false
has_value Turns = true
has_value Regions = true
has_value Pattern = true
has_value Layout = true
has_value Blocks = true
has_value Depth = true
has_value Every = true

-- whether a command takes one word and no more beside its options
abbrev pub is_single : Command → Bool
is_single commands.Plain = false
is_single commands.Rewrite = true
is_single commands.Run = false
is_single commands.Trace = false
is_single commands.Demo = true
is_single commands.Replay = true
is_single commands.Plan = true

-- ---- values

-- a value, which is given once
abbrev pub once : {A : Type 0} → Option A → Option A → Option (Option A)
once None (Some value) = Some (Some value)
once None None = None
once (Some before) value = None

-- an option is chosen, if it wasn't before and has such a value
unfoldable pub with_value : Chosen → Setting → List ℕ → Option Chosen
with_value chosen Turns word = option_map (λ value. record chosen { turns = value }) (once chosen.turns (number_in 1 1_000_000_000_000_000 word))
with_value chosen Regions word = option_map (λ value. record chosen { regions = value }) (once chosen.regions (number_in 1 65_536 word))
with_value chosen Pattern word = option_map (λ value. record chosen { pattern = value }) (once chosen.pattern (pattern_in word))
with_value chosen Layout word = option_map (λ value. record chosen { layout = value }) (once chosen.layout (version_in word))
with_value chosen Blocks word = option_map (λ value. record chosen { blocks = value }) (once chosen.blocks (number_in 1 65_536 word))
with_value chosen Depth word = option_map (λ value. record chosen { depth = value }) (once chosen.depth (number_in 1 65_536 word))
with_value chosen Every word = option_map (λ value. record chosen { every = value }) (once chosen.every (number_in 1 1_000_000_000_000_000 word))
with_value chosen Report word = None
with_value chosen Uses word = None

-- an option without a value is chosen, if it wasn't before
unfoldable pub with_flag : Chosen → Setting → Option Chosen
with_flag chosen Report = if chosen.report then None else Some (record chosen { report = true })
with_flag chosen Uses = if chosen.uses then None else Some (record chosen { uses = true })
with_flag chosen Turns = None
with_flag chosen Regions = None
with_flag chosen Pattern = None
with_flag chosen Layout = None
with_flag chosen Blocks = None
with_flag chosen Depth = None
with_flag chosen Every = None

-- `O1S600D1`
abbrev pub default_pattern : Moves
default_pattern = (moves.O, 1) ∷ (moves.S, 600) ∷ (moves.D, 1) ∷ []

-- the options that were chosen, and the default of each other
unfoldable pub options_of : Chosen → Options
options_of chosen = record {
  turns = unwrap_or chosen.turns 10_000_000_000;
  regions = unwrap_or chosen.regions 4096;
  pattern = unwrap_or chosen.pattern default_pattern;
  layout = unwrap_or chosen.layout Two;
  report = chosen.report;
  uses = chosen.uses;
  blocks = unwrap_or chosen.blocks 256;
  depth = unwrap_or chosen.depth 64;
  every = unwrap_or chosen.every 1;
}

-- no option was chosen
abbrev pub nothing_chosen : Chosen
nothing_chosen = record { turns = None; regions = None; pattern = None; layout = None; report = false; uses = false; blocks = None; depth = None; every = None }
