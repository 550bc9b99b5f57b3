-- The machine of a rewritten program stands in two forms: a memory of words, as a hart executes it, and instructions with the parts of a run, as the laws have it. They are the same machine (this project's own).
use Rattle.std.specs.Prelude.{ℕ, ◌+◌, ◌*◌, ◌^◌, ◌≡◌, ◌<◌, ⊤, Bool, true, false, List, length, map, flat_map, Option, IsTrue, All}
use Rattle.std.specs.Option.{option_map}
use Rattle.spec_base.specs.Layout.{stub_start, helper_words, stub_words}
use Rattle.spec_base.specs.declared.machine.View.{View}
use Rattle.spec_base.specs.declared.machine.View.TheVariants.{Plain, Program, Stub, Shadow}
use Rattle.spec_base.specs.declared.note.ShadowState.TheVariants.{Running}
use Rattle.rv_decode.specs.Instruction.{instr_of}
use Rattle.rv_decode.specs.Encoding.{word_of}
use Rattle.rv_decode.specs.declared.instr.Instr.{Instr}
use Rattle.rv_decode.specs.declared.instr.Instr.TheVariants.{Hgate, Hleave, Hsite, Hkey, Hstop, Hrestart, Hpark}
use Rattle.rv_model.specs.Effect.{Effect, Next, Stored, Trapped, Called, Gated, gate_effect, fetched}
use Rattle.rv_model.specs.Registers.{Registers}
use Rattle.rv_model.specs.Space.{Space, word_at, stored_in, effect_at}
use Rattle.program_model.specs.PlainRun.{text_of}
use Rattle.code_model.specs.Blocks.{blocks_from}
use Rattle.code_model.specs.Helpers.{helpers}
use Rattle.code_model.specs.Stub.{stub}
use Rattle.run_model.specs.Run.{World, Run, Answer, rewritten_text, rewritten_words}
use Rattle.run_model.specs.OwnMoves.{program_step, program_after, stub_step, stub_after}
use Rattle.run_model.specs.ShadowMoves.{fetch_shadow, arrived, shadow_after, shadow_step, word_counted}
use Rattle.run_laws.specs.OwnLaws.{Accepted}

-- ---- the memory of a run

-- the instructions of the shadow text: the blocks one after another
abbrev pub shadow_text : World → List Instr
shadow_text w = flat_map (λ block. block) (blocks_from w.image.layout w.image.layout.text_start (text_of w.image))

-- the words of the rewritten program, and the parts of a run that instructions load and store
unfoldable pub space_of_run : World → Run → Space
space_of_run w r =
    record {
      layout = w.image.layout;
      text = rewritten_words w;
      shadow = map word_of (shadow_text w);
      helpers = map word_of (helpers w.image.layout);
      stub = map word_of stub;
      program = r.own.memory;
      shared = r.shared;
      stub_page = r.own_page;
      shadow_page = r.shadow_page;
    }

-- so many words of 32 bits
pub record AreWords (words : List ℕ) (count : ℕ) : Type 0 where
  pub as_many : length words ≡ count
  pub bits : All (λ word. word < 2 ^ 32) words

-- the code in that memory: 16 words of shadow text for each word of the text and for the guard block, 282 of the helpers and 71 of the stub
pub record HasCode (w : World) (r : Run) : Type 0 where
  pub text : AreWords (space_of_run w r).text (length w.image.words)
  pub shadow : AreWords (space_of_run w r).shadow (16 * (length w.image.words + 1))
  pub helpers : AreWords (space_of_run w r).helpers helper_words
  pub stub : AreWords (space_of_run w r).stub stub_words

-- every run of an accepted program has its code
abbrev pub CodeIsWords : Type 0
CodeIsWords = (w : World) → Accepted w → (r : Run) → HasCode w r

-- in a run only these four parts change
abbrev pub PartsChange : Type 0
PartsChange =
    (w : World) (r later : Run) →
    space_of_run w later ≡ record (space_of_run w r) { program = later.own.memory; shared = later.shared; stub_page = later.own_page; shadow_page = later.shadow_page }

-- ---- fetches

-- the instruction at pc of the view's code
abbrev pub instr_in : View → Space → ℕ → Option Instr
instr_in v s pc = option_map instr_of (word_at v s pc)

-- at each pc a run fetches the instruction of the word that a hart fetches
pub record SameFetches (w : World) (r : Run) (pc : ℕ) : Type 0 where
  pub program : fetched (rewritten_text w) w.image.layout.text_start pc ≡ instr_in Program (space_of_run w r) pc
  pub stub : fetched stub stub_start pc ≡ instr_in Stub (space_of_run w r) pc
  pub shadow : fetch_shadow w pc ≡ instr_in Shadow (space_of_run w r) pc

-- in every run of an accepted program, at every pc
abbrev pub FetchesSame : Type 0
FetchesSame = (w : World) → Accepted w → (r : Run) (pc : ℕ) → SameFetches w r pc

-- ---- steps

-- what the word at the own hart's pc does in a view
abbrev pub own_effect : View → World → Run → Effect
own_effect v w r = effect_at v (space_of_run w r) r.own.registers r.own.pc

-- and what the word at the shadow's pc does
abbrev pub shadow_effect : World → Run → Effect
shadow_effect w r = effect_at Shadow (space_of_run w r) r.shadow.registers r.shadow.pc

-- the run after an effect of the shadow's word
abbrev pub shadow_moved : World → Answer → Run → Effect → Run
shadow_moved w x r e = word_counted (arrived w.image.layout (shadow_after w x r e))

-- a run goes on by the effect of the word at the hart's pc, which may be that there is none to fetch
pub record SameSteps (w : World) (r : Run) (x : Answer) : Type 0 where
  pub program : program_step w r ≡ program_after r (own_effect Program w r)
  pub stub : stub_step w x r ≡ stub_after w x r (own_effect Stub w r)
  pub shadow : r.shadow.state ≡ Running → shadow_step w x r ≡ shadow_moved w x r (shadow_effect w r)

-- in every run of an accepted program, whatever the outside answers
abbrev pub StepsSame : Type 0
StepsSame = (w : World) → Accepted w → (r : Run) (x : Answer) → SameSteps w r x

-- an effect that a view can have: a call is made in the plain view alone, and a gate is one of the view's own
abbrev pub IsOfView : View → Effect → Type 0
IsOfView v (Next rs pc) = ⊤
IsOfView v (Stored a width value) = ⊤
IsOfView v (Trapped cause) = ⊤
IsOfView v Called = v ≡ Plain
IsOfView v (Gated i) = gate_effect v i ≡ Gated i

-- no word has another effect
abbrev pub EffectsOfView : Type 0
EffectsOfView = (v : View) (s : Space) (rs : Registers) (pc : ℕ) → IsOfView v (effect_at v s rs pc)

-- ---- stores

-- a store of a run is the store to its memory in the hart's view
pub record SameStores (w : World) (r : Run) (x : Answer) (a width v : ℕ) : Type 0 where
  pub program : space_of_run w (program_after r (Stored a width v)) ≡ stored_in Program (space_of_run w r) a width v
  pub stub : space_of_run w (stub_after w x r (Stored a width v)) ≡ stored_in Stub (space_of_run w r) a width v
  pub shadow : space_of_run w (shadow_moved w x r (Stored a width v)) ≡ stored_in Shadow (space_of_run w r) a width v

-- in every run, for each store
abbrev pub StoresSame : Type 0
StoresSame = (w : World) (r : Run) (x : Answer) (a width v : ℕ) → SameStores w r x a width v

-- an effect that is no store, or a gate of the view but HCALL
abbrev pub is_quiet : View → Effect → Bool
is_quiet v (Next rs pc) = true
is_quiet v (Trapped cause) = true
is_quiet Program (Gated Hgate) = true
is_quiet Stub (Gated Hleave) = true
is_quiet Stub (Gated (Hsite rd)) = true
is_quiet Stub (Gated (Hkey rd)) = true
is_quiet Stub (Gated Hstop) = true
is_quiet Stub (Gated Hrestart) = true
is_quiet Shadow (Gated (Hkey rd)) = true
is_quiet Shadow (Gated (Hpark cause)) = true
is_quiet v e = false

-- such an effect leaves the memory
pub record LeavesSpace (w : World) (r : Run) (x : Answer) (e : Effect) : Type 0 where
  pub program : IsTrue (is_quiet Program e) → space_of_run w (program_after r e) ≡ space_of_run w r
  pub stub : IsTrue (is_quiet Stub e) → space_of_run w (stub_after w x r e) ≡ space_of_run w r
  pub shadow : IsTrue (is_quiet Shadow e) → space_of_run w (shadow_moved w x r e) ≡ space_of_run w r

-- in every run, for each effect
abbrev pub QuietLeaves : Type 0
QuietLeaves = (w : World) (r : Run) (x : Answer) (e : Effect) → LeavesSpace w r x e
