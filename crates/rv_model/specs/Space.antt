-- A memory of all parts, and what each view sees of it (this project's own).
use Rattle.std.specs.Prelude.{ℕ, ◌-◌, ◌/◌, ◌%◌, Bool, true, false, List, get_or, nat_le, Option, Some, None}
use Rattle.spec_base.specs.Word.{byte_of}
use Rattle.spec_base.specs.Layout.{shadow_start, helpers_start, stub_start}
use Rattle.spec_base.specs.declared.layout.Layout.{Layout}
use Rattle.spec_base.specs.declared.machine.Trap.TheVariants as trap
use Rattle.spec_base.specs.declared.machine.View.{View}
use Rattle.spec_base.specs.declared.machine.View.TheVariants.{Plain, Program, Stub, Shadow}
use Rattle.rv_decode.specs.Instruction.{instr_of}
use Rattle.rv_model.specs.Memory.{Memory, stored}
use Rattle.rv_model.specs.Registers.{Registers}
use Rattle.rv_model.specs.Rights.{in_private, in_range, in_text, rights_of}
use Rattle.rv_model.specs.Effect.{Effect, Trapped, effect, fetched}

-- the parts. The text and the emitted code are words; program has a byte at each address, of which only the data count
pub record Space : Type 0 where
  pub layout : Layout
  pub text : List ℕ
  pub shadow : List ℕ
  pub helpers : List ℕ
  pub stub : List ℕ
  pub program : Memory
  pub shared : Memory
  pub stub_page : Memory
  pub shadow_page : Memory

-- a byte of the text
abbrev pub text_byte : Layout → List ℕ → ℕ → ℕ
text_byte l words a = byte_of (get_or words ((a - l.text_start) / 4) 0) ((a - l.text_start) % 4)

-- a byte of the program range, its text included
abbrev pub program_byte : Layout → List ℕ → Memory → Memory
program_byte l words program a = elim (in_text l a) [ true ↦ text_byte l words a | false ↦ program a ]

-- what the stub sees: its private page, and else the parts that it shares with the shadow
abbrev pub stub_sees : Memory → Memory → Memory
stub_sees shared page a = elim (in_private a) [ true ↦ page a | false ↦ shared a ]

-- what the shadow sees: its private page, the program range, and else the shared parts
abbrev pub shadow_sees : Layout → List ℕ → Memory → Memory → Memory → Memory
shadow_sees l words program shared page a =
    elim (in_private a) [
      | true ↦ page a
      | false ↦ elim (in_range l a) [ true ↦ program_byte l words program a | false ↦ shared a ]
    ]

-- the memory that a view loads from
abbrev pub sees : View → Space → Memory
sees Plain s = s.program
sees Program s = s.program
sees Stub s = stub_sees s.shared s.stub_page
sees Shadow s = shadow_sees s.layout s.text s.program s.shared s.shadow_page

-- ---- a store that the view allows

-- a store of the stub: to its private page (true), or to a shared part
abbrev pub stub_stored : Bool → Space → ℕ → ℕ → ℕ → Space
stub_stored true s a width v = record s { stub_page = stored s.stub_page a width v }
stub_stored false s a width v = record s { shared = stored s.shared a width v }

-- a store of the shadow: to its private page (true), or to a shared part
abbrev pub shadow_stored : Bool → Space → ℕ → ℕ → ℕ → Space
shadow_stored true s a width v = record s { shadow_page = stored s.shadow_page a width v }
shadow_stored false s a width v = record s { shared = stored s.shared a width v }

-- a store in a view
abbrev pub stored_in : View → Space → ℕ → ℕ → ℕ → Space
stored_in Plain s a width v = record s { program = stored s.program a width v }
stored_in Program s a width v = record s { program = stored s.program a width v }
stored_in Stub s a width v = stub_stored (in_private a) s a width v
stored_in Shadow s a width v = shadow_stored (in_private a) s a width v

-- ---- fetches

-- the shadow's word at pc: of the helpers (true), or of the shadow text
abbrev pub shadow_word : Bool → Space → ℕ → Option ℕ
shadow_word true s pc = fetched s.helpers helpers_start pc
shadow_word false s pc = fetched s.shadow shadow_start pc

-- the word at pc of the view's code
abbrev pub word_at : View → Space → ℕ → Option ℕ
word_at Plain s pc = fetched s.text s.layout.text_start pc
word_at Program s pc = fetched s.text s.layout.text_start pc
word_at Stub s pc = fetched s.stub stub_start pc
word_at Shadow s pc = shadow_word (nat_le helpers_start pc) s pc

-- ---- one step

-- a word is executed, or there is none to fetch
abbrev pub word_effect : View → Space → Registers → ℕ → Option ℕ → Effect
word_effect v s rs pc None = Trapped trap.FetchOut
word_effect v s rs pc (Some word) = effect v (rights_of v s.layout) (sees v s) rs pc (instr_of word)

-- what the word at pc does in the view
unfoldable pub effect_at : View → Space → Registers → ℕ → Effect
effect_at v s rs pc = word_effect v s rs pc (word_at v s pc)
