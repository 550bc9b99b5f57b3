-- One word of the shadow hart (this project's own).
use Rattle.std.specs.Prelude.{ℕ, zero, suc, ◌+◌, ◌-◌, ◌*◌, ◌/◌, ◌%◌, max, Bool, true, false, ◌&&◌, ℤ, pos, List, [], ◌∷◌, ◌++◌, length, slice_get, nat_lt, nat_le, ◌==◌, Option, Some, None}
use Rattle.std.specs.Option.{option_and_then}
use Rattle.spec_base.specs.Word.{word_of_int}
use Rattle.spec_base.specs.declared.layout.Layout.{Layout}
use Rattle.spec_base.specs.declared.machine.View.TheVariants.{Shadow}
use Rattle.spec_base.specs.declared.park.Park.{Park}
use Rattle.spec_base.specs.declared.park.Park.TheVariants as park
use Rattle.spec_base.specs.declared.note.ShadowState.{ShadowState}
use Rattle.spec_base.specs.declared.note.ShadowState.TheVariants.{Never, Running, Stopped, Parked}
use Rattle.spec_base.specs.declared.note.Note.{Note}
use Rattle.spec_base.specs.declared.note.Note.TheVariants as note
use Rattle.spec_base.specs.declared.spot.ReadSpot.{ReadSpot}
use Rattle.spec_base.specs.declared.spot.BlockSpot.{BlockSpot}
use Rattle.rv_decode.specs.declared.instr.Instr.{Instr}
use Rattle.rv_decode.specs.declared.instr.Instr.TheVariants.{Hkey, Hcall, Hpark}
use Rattle.rv_model.specs.Memory.{Memory, stored}
use Rattle.rv_model.specs.Rights.{in_private, is_data, shadow_rights}
use Rattle.rv_model.specs.Registers.{Registers, reg, with_reg}
use Rattle.rv_model.specs.Effect.{Effect, Next, Stored, Trapped, Called, Gated, effect, fetched, after}
use Rattle.rv_model.specs.Space.{shadow_sees}
use Rattle.program_model.specs.Descriptors.{Descriptors}
use Rattle.program_model.specs.Calls.{CallPlan, Set, Look, Read, Write, Exit, call_plan, opened, after_read, bytes_read, key_of}
use Rattle.program_model.specs.PlainRun.{text_of, size_in}
use Rattle.program_model.specs.Cache.{Cache, holds, all_hinted, blocks_of}
use Rattle.spec_base.specs.Layout.{shadow_start, helpers_start}
use Rattle.code_model.specs.Blocks.{blocks_from}
use Rattle.code_model.specs.Helpers.{helpers}
use Rattle.code_model.specs.Regions.{slots_in_use, shadowed, new_regions, with_copies, set_in_copies}
use Rattle.run_model.specs.Run.{World, Run, Answer, Failed, ShadowHart, Since, rewritten_words}

-- ---- code

-- the word at pc in the shadow text: word (pc % 64) / 4 of a block
abbrev pub block_word : World → ℕ → Option Instr
block_word w pc =
    option_and_then (λ words. slice_get words ((pc % 64) / 4))
    (slice_get (blocks_from w.image.layout w.image.layout.text_start (text_of w.image)) ((pc - shadow_start) / 64))

-- in the helpers (true), else in a block (true), else nowhere
abbrev pub fetch_by : Bool → Bool → World → ℕ → Option Instr
fetch_by true in_blocks w pc = fetched (helpers w.image.layout) helpers_start pc
fetch_by false true w pc = block_word w pc
fetch_by false false w pc = None

-- in the helpers, in a block, or nowhere
abbrev pub fetch_shadow : World → ℕ → Option Instr
fetch_shadow w pc = fetch_by (nat_le helpers_start pc) (nat_le shadow_start pc && (pc % 4 == 0)) w pc

-- word 1 of a block, the guard block included
abbrev pub is_arrival : Layout → ℕ → Bool
is_arrival l pc = nat_lt pc helpers_start && (nat_le shadow_start pc && (nat_le pc (shadow_start + 16 * (l.text_end - l.text_start) + 4) && (pc % 64 == 4)))

-- HCALL 0 or HCALL 1
abbrev pub is_call_word : Option Instr → Bool
is_call_word (Some (Hcall unhinted)) = true
is_call_word _ = false

-- ---- states

-- whether the shadow runs
abbrev pub is_running : ShadowState → Bool
is_running Running = true
is_running Never = false
is_running Stopped = false
is_running (Parked cause) = false

-- the shadow parks, and this is told
abbrev pub parked_with : Run → Park → List Note → Run
parked_with r cause notes = record r { shadow = record r.shadow { state = Parked cause }; notes = notes }

-- the shadow parks
abbrev pub parked : Run → Park → Run
parked r cause = parked_with r cause (note.Park cause ∷ [])

-- the shadow goes on with these registers at this pc
abbrev pub shadow_at : Run → Registers → ℕ → Run
shadow_at r rs pc = record r { shadow = record r.shadow { registers = rs; pc = pc } }

-- an arrival counts where the shadow goes on
abbrev pub arrived_if : Bool → Run → Run
arrived_if true r = record r { since = record r.since { shadow = r.since.shadow + 1 } }
arrived_if false r = r

-- the shadow arrives at word 1 of a block
abbrev pub arrived : Layout → Run → Run
arrived l r = arrived_if (is_running r.shadow.state && is_arrival l r.shadow.pc) r

-- ---- assumed calls

-- the plan of the call in the shadow's registers, over the bytes that it sees
abbrev pub shadow_plan : World → Run → CallPlan
shadow_plan w r =
    call_plan (is_data w.image.layout) (shadowed r.shared r.own.memory) r.shadow.files
    (reg r.shadow.registers 17) (reg r.shadow.registers 10) (reg r.shadow.registers 11) (reg r.shadow.registers 12)

-- the call is assumed: x10 has the answer, and the shadow's descriptors are these
abbrev pub assumed_with : Run → Descriptors × ℤ → Run
assumed_with r o = record r { shadow = record r.shadow { files = o.0; registers = with_reg r.shadow.registers 10 (word_of_int o.1); pc = after r.shadow.pc } }

-- HCALL 0 gives a read as a hint, HCALL 1 doesn't
abbrev pub hint_given : Bool → ReadSpot → Run → Run
hint_given true spot r = r
hint_given false spot r =
    record r {
      cache = all_hinted 64 r.cache (blocks_of spot);
      since = record r.since { hints = r.since.hints ++ spot ∷ [] };
      hints = r.hints + 1;
      notes = note.Hint spot ∷ [];
    }

-- ---- a read that is filled

-- each block is cached
abbrev pub all_held : List BlockSpot → List BlockSpot → Bool
all_held cached [] = true
all_held cached (spot ∷ spots) = holds cached spot && all_held cached spots

-- the new regions fit beside those in use
abbrev pub regions_fit : Layout → Memory → ℕ → ℕ → Bool
regions_fit l shared a n = nat_le (slots_in_use shared + length (new_regions shared a n)) l.regions

-- a read of n + 1 bytes is filled where all its blocks are cached and its new regions fit; one of no bytes isn't
abbrev pub is_filled : World → Run → ReadSpot → ℕ → ℕ → Bool
is_filled w r spot a zero = false
is_filled w r spot a (suc n) = all_held r.cache.cached (blocks_of spot) && regions_fit w.image.layout r.shared a n

-- the regions of these bytes get copies, and the bytes are set in them
abbrev pub filled_copies : World → Run → ℕ → List ℕ → Memory
filled_copies w r a bytes = set_in_copies (with_copies w.image.layout (rewritten_words w) r.own.memory r.shared (new_regions r.shared a (length bytes - 1))) a bytes

-- a read is filled (true), or left unfilled
abbrev pub fill_if : Bool → World → ReadSpot → ℕ → Run → Run
fill_if false w spot a r = r
fill_if true w spot a r =
    record r {
      shared = filled_copies w r a (bytes_read w.files spot);
      since = record r.since { filled = r.since.filled ++ (r.since.shadow + 1) ∷ [] };
      notes = r.notes ++ note.Fill spot ∷ [];
    }

-- a read is filled where that can be
abbrev pub fill : World → ReadSpot → ℕ → Run → Run
fill w spot a r = fill_if (is_filled w r spot a spot.count) w spot a r

-- ---- HCALL 0 and HCALL 1 of the shadow

-- a look was answered, or failed
abbrev pub look_assumed : World → Answer → Run → List ℕ → Run
look_assumed w Failed r name = parked r park.Store
look_assumed w _ r name = assumed_with r (opened r.shadow.files name (size_in w.files name))

-- a planned call is assumed
abbrev pub assumed : World → Answer → Run → Bool → CallPlan → Run
assumed w x r unhinted (Set f answer) = assumed_with r (f, answer)
assumed w x r unhinted (Look name) = look_assumed w x r name
assumed w x r unhinted (Read d spot a) = assumed_with (fill w spot a (hint_given unhinted spot r)) (after_read r.shadow.files d spot.count, pos spot.count)
assumed w x r unhinted (Write to_out a n) = assumed_with r (r.shadow.files, pos n)
assumed w x r unhinted (Exit code) = parked r park.Exit

-- a gate instruction of the shadow
abbrev pub shadow_gate : World → Answer → Run → Instr → Run
shadow_gate w x r (Hkey rd) = shadow_at r (with_reg r.shadow.registers rd (key_of (shadow_plan w r))) (after r.shadow.pc)
shadow_gate w x r (Hcall unhinted) = assumed w x r unhinted (shadow_plan w r)
shadow_gate w x r (Hpark cause) = parked (shadow_at r r.shadow.registers (after r.shadow.pc)) cause
shadow_gate w x r _ = r

-- ---- one word

-- a store goes to the shadow's page or to what it shares with the stub
abbrev pub shadow_stores : Bool → Run → ℕ → ℕ → ℕ → Run
shadow_stores true r a width v = record r { shadow_page = stored r.shadow_page a width v; shadow = record r.shadow { pc = after r.shadow.pc } }
shadow_stores false r a width v = record r { shared = stored r.shared a width v; shadow = record r.shadow { pc = after r.shadow.pc } }

-- a word that would trap parks the shadow
abbrev pub shadow_after : World → Answer → Run → Effect → Run
shadow_after w x r (Next rs pc) = shadow_at r rs pc
shadow_after w x r (Stored a width v) = shadow_stores (in_private a) r a width v
shadow_after w x r (Trapped cause) = parked r park.Fault
shadow_after w x r (Gated i) = shadow_gate w x r i
shadow_after w x r Called = r

-- a word of the shadow, or none to fetch
abbrev pub shadow_at_word : World → Answer → Run → Option Instr → Run
shadow_at_word w x r None = parked r park.Fault
shadow_at_word w x r (Some i) =
    arrived w.image.layout (shadow_after w x r
    (effect Shadow (shadow_rights w.image.layout) (shadow_sees w.image.layout (rewritten_words w) r.own.memory r.shared r.shadow_page) r.shadow.registers r.shadow.pc i))

-- a word is counted, and so is the most regions in use
abbrev pub word_counted : Run → Run
word_counted r = record r { since = record r.since { words = r.since.words + 1 }; regions_most = max r.regions_most (slots_in_use r.shared) }

-- only a running shadow moves
abbrev pub shadow_in : ShadowState → World → Answer → Run → Run
shadow_in Running w x r = word_counted (shadow_at_word w x r (fetch_shadow w r.shadow.pc))
shadow_in Never w x r = r
shadow_in Stopped w x r = r
shadow_in (Parked cause) w x r = r

-- one word, if the shadow is running
abbrev pub shadow_step : World → Answer → Run → Run
shadow_step w x r = shadow_in r.shadow.state w x r
