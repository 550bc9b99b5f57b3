-- What a word of the shadow or of the stub does where it completes: all but a trap (this project's own).
use Rattle.std.specs.Prelude.{ℕ, ◌≡◌, Bool, Some}
use Rattle.spec_base.specs.Layout.{stub_start}
use Rattle.spec_base.specs.declared.machine.View.TheVariants.{Stub, Shadow}
use Rattle.spec_base.specs.declared.park.Park.{Park}
use Rattle.rv_decode.specs.declared.instr.Instr.{Instr}
use Rattle.rv_decode.specs.declared.instr.Instr.TheVariants.{Hkey, Hcall, Hpark}
use Rattle.rv_model.specs.Registers.{Registers}
use Rattle.rv_model.specs.Rights.{stub_rights, shadow_rights}
use Rattle.rv_model.specs.Effect.{Effect, Next, Stored, Gated, effect, fetched}
use Rattle.rv_model.specs.Space.{stub_sees, shadow_sees}
use Rattle.code_model.specs.Stub.{stub}
use Rattle.run_model.specs.Run.{World, Run, rewritten_words}
use Rattle.run_model.specs.ShadowMoves.{fetch_shadow}

-- ---- a word of the shadow

-- the hart goes on, stores a number, asks for the key of a call or for a call, or parks; it doesn't trap, and makes no call of the plain view
pub data Completes : Effect → Type 0 where
  goes_on : (registers : Registers) (pc : ℕ) → Completes (Next registers pc)
  stores : (address width value : ℕ) → Completes (Stored address width value)
  asks_key : (rd : ℕ) → Completes (Gated (Hkey rd))
  asks_call : (unhinted : Bool) → Completes (Gated (Hcall unhinted))
  asks_park : (cause : Park) → Completes (Gated (Hpark cause))

-- there is a word at the shadow's pc, and it completes, with the shadow's registers and the memory that it sees
pub record WordCompletes (w : World) (r : Run) : Type 0 where
  pub word : Instr
  pub fetched : fetch_shadow w r.shadow.pc ≡ Some word
  pub completes :
      Completes
      (effect Shadow (shadow_rights w.image.layout) (shadow_sees w.image.layout (rewritten_words w) r.own.memory r.shared r.shadow_page) r.shadow.registers r.shadow.pc word)

-- ---- a word of the stub

-- the hart goes on, stores a number, or asks for what its gate instruction gives; it doesn't trap, and makes no call of the plain view
pub data StubGoesOn : Effect → Type 0 where
  goes_on : (registers : Registers) (pc : ℕ) → StubGoesOn (Next registers pc)
  stores : (address width value : ℕ) → StubGoesOn (Stored address width value)
  asks : (gate : Instr) → StubGoesOn (Gated gate)

-- there is a word at the own hart's pc in the stub, and it completes
pub record StubWordCompletes (r : Run) : Type 0 where
  pub word : Instr
  pub fetched : fetched stub stub_start r.own.pc ≡ Some word
  pub completes : StubGoesOn (effect Stub stub_rights (stub_sees r.shared r.own_page) r.own.registers r.own.pc word)
