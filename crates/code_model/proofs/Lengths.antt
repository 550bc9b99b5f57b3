-- Where the words of helpers and stub stand, and how many there are: computed from the lists.
use Rattle.std.proofs.Common.{◌≡◌, ℕ, ◌+◌, ◌-◌, ◌/◌, List, [], ◌∷◌, length, slice_get, Some, pos, refl}
use Rattle.spec_base.specs.declared.layout.Layout.{Layout}
use Rattle.rv_decode.specs.declared.instr.Instr.TheVariants.{Hpark, Hkey, Hcall, Hleave, Hstop, Hrestart}
use Rattle.spec_base.specs.declared.park.Park.TheVariants as park
use Rattle.std.specs.Prelude.{true, false}
use Rattle.code_model.specs.Assembly.{lui, srli, sd, X30, RET}
use Rattle.code_model.specs.Places.{LOAD1, STORE1, JUMP, LTAIL, STAIL, APPEND, RESTART, FAULT, FULL, LOGFULL}
use Rattle.code_model.specs.Helpers.{helpers}
use Rattle.code_model.specs.Stub.{stub}

module _ (l : Layout) where
  helper_words : length (helpers l) ≡ 282
  helper_words = refl

  starts-LOAD1 : slice_get (helpers l) (LOAD1 / 4) ≡ Some (sd 31 RET 0)
  starts-LOAD1 = refl

  starts-STORE1 : slice_get (helpers l) (STORE1 / 4) ≡ Some (sd 31 RET 0)
  starts-STORE1 = refl

  starts-JUMP : slice_get (helpers l) (JUMP / 4) ≡ Some (sd 30 X30 0)
  starts-JUMP = refl

  starts-LTAIL : slice_get (helpers l) (LTAIL / 4) ≡ Some (srli 30 31 8)
  starts-LTAIL = refl

  starts-STAIL : slice_get (helpers l) (STAIL / 4) ≡ Some (srli 30 31 8)
  starts-STAIL = refl

  starts-APPEND : slice_get (helpers l) (APPEND / 4 + 2) ≡ Some (Hkey 31)
  starts-APPEND = refl

  starts-RESTART : slice_get (helpers l) (RESTART / 4) ≡ Some (lui 28 0x44000)
  starts-RESTART = refl

  restart_calls : slice_get (helpers l) (RESTART / 4 + 47) ≡ Some (Hcall true)
  restart_calls = refl

  is-FAULT : slice_get (helpers l) (FAULT / 4) ≡ Some (Hpark park.Fault)
  is-FAULT = refl

  is-FULL : slice_get (helpers l) (FULL / 4) ≡ Some (Hpark park.Regions)
  is-FULL = refl

  is-LOGFULL : slice_get (helpers l) (LOGFULL / 4) ≡ Some (Hpark park.LogFull)
  is-LOGFULL = refl

stub_words : length stub ≡ 71
stub_words = refl

stub_calls : slice_get stub 25 ≡ Some (Hcall false)
stub_calls = refl

stub_stops : slice_get stub 27 ≡ Some Hstop
stub_stops = refl

stub_restarts : slice_get stub 69 ≡ Some Hrestart
stub_restarts = refl
