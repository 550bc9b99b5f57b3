-- A call that the shadow assumes leaves all below the table, also where it fills a read: copies, list and table stand from there on.
use Rattle.std.proofs.Common.{ℕ, ◌+◌, ◌*◌, ◌/◌, ◌≤◌, Bool, true, false, List, [], ◌∷◌, refl, ◌∙◌, arith}
use Rattle.std.proofs.lemmas.Bool.Decides.{nat_tests}
use Rattle.spec_base.specs.Word.{byte_of}
use Rattle.spec_base.specs.Layout.{table_start, list_start}
use Rattle.spec_base.specs.declared.layout.Layout.{Layout}
use Rattle.spec_base.specs.declared.spot.ReadSpot.{ReadSpot}
use Rattle.rv_model.specs.Memory.{Memory, patched, stored}
use Rattle.program_model.specs.Calls.{Set, Look, Read, Write, Exit}
use Rattle.rv_model.specs.Space.{program_byte}
use Rattle.code_model.specs.Regions.{entry_address, entry_of, listed_address, slot_address, slots_in_use, with_copy_at, with_copies, copy_place, set_in_copies}
use Rattle.run_model.specs.Run.{World, Run, Answer, Usual, Took, Failed, Lost}
use Rattle.run_model.specs.ShadowMoves.{fill, fill_if, hint_given, look_assumed}
use Rattle.rows_log.specs.Queue.{LeavesLink, CallsLeaveLink}

-- a patch from the table on
pub leaves-patched : (m : Memory) (base n : ℕ) (f : Memory) → table_start ≤ base → LeavesLink m (patched m base n f)
unfolding patched
leaves-patched m base n f h a k = grind (arith, nat_tests)

-- one change behind another
leaves-twice : (a b c : Memory) → LeavesLink a b → LeavesLink b c → LeavesLink a c
leaves-twice a b c f g x h = g x h ∙ f x h

-- a copy of a region
leaves-copy : (slot : ℕ) (l : Layout) (words : List ℕ) (program shared : Memory) (region : ℕ) → LeavesLink shared (with_copy_at slot l words program shared region)
leaves-copy slot l words program shared region =
    let bytes : Memory = patched shared (slot_address slot) 256 (λ i. program_byte l words program (256 * region + i)) in
    let listed : Memory = stored bytes (listed_address slot) 4 (entry_address region) in
    let counted : Memory = stored listed list_start 8 (slot + 1) in
    leaves-twice shared counted (stored counted (entry_address region) 4 (slot + 1))
    (leaves-twice shared listed counted
    (leaves-twice shared bytes listed (leaves-patched shared (slot_address slot) 256 (λ i. program_byte l words program (256 * region + i)) (omega arith))
    (leaves-patched bytes (listed_address slot) 4 (byte_of (entry_address region)) (omega arith)))
    (leaves-patched listed list_start 8 (byte_of (slot + 1)) (omega arith)))
    (leaves-patched counted (entry_address region) 4 (byte_of (slot + 1)) (omega arith))

-- copies of regions
leaves-copies : (l : Layout) (words : List ℕ) (program shared : Memory) (regions : List ℕ) → LeavesLink shared (with_copies l words program shared regions)
unfolding with_copies
leaves-copies l words program shared [] = λ a h. refl
leaves-copies l words program shared (region ∷ regions) =
    let next : Memory = with_copy_at (slots_in_use shared) l words program shared region in
    leaves-twice shared next (with_copies l words program next regions) (leaves-copy (slots_in_use shared) l words program shared region) (leaves-copies l words program next regions)

-- bytes in copies
leaves-bytes : (shared : Memory) (a : ℕ) (bytes : List ℕ) → LeavesLink shared (set_in_copies shared a bytes)
unfolding set_in_copies
leaves-bytes shared a [] = λ x h. refl
leaves-bytes shared a (byte ∷ bytes) =
    let place : ℕ = copy_place (entry_of shared (a / 256)) a in
    let next : Memory = patched shared place 1 (λ i. byte) in
    leaves-twice shared next (set_in_copies next (a + 1) bytes) (leaves-patched shared place 1 (λ i. byte) (omega arith)) (leaves-bytes next (a + 1) bytes)

-- a read that is filled, or isn't
leaves-filled : (b : Bool) (w : World) (spot : ReadSpot) (a : ℕ) (r : Run) → LeavesLink r.shared (fill_if b w spot a r).shared
leaves-filled true w spot a r = leaves-twice r.shared _ _ (leaves-copies _ _ _ r.shared _) (leaves-bytes _ a _)
leaves-filled false w spot a r = λ x h. refl

-- a read that gave a hint, or didn't
leaves-read : (w : World) (spot : ReadSpot) (a : ℕ) (r : Run) (unhinted : Bool) → LeavesLink r.shared (fill w spot a (hint_given unhinted spot r)).shared
leaves-read w spot a r true = leaves-filled _ w spot a r
leaves-read w spot a r false = leaves-filled _ w spot a (hint_given false spot r)

-- a look
leaves-look : (w : World) (x : Answer) (r : Run) (name : List ℕ) → LeavesLink r.shared (look_assumed w x r name).shared
leaves-look w Failed r name = λ a h. refl
leaves-look w Usual r name = λ a h. refl
leaves-look w (Took k) r name = λ a h. refl
leaves-look w Lost r name = λ a h. refl

-- each call
pub calls-leave_link : CallsLeaveLink
calls-leave_link w x r unhinted (Set f answer) = λ a h. refl
calls-leave_link w x r unhinted (Look name) = leaves-look w x r name
calls-leave_link w x r unhinted (Read d spot to) = leaves-read w spot to r unhinted
calls-leave_link w x r unhinted (Write to_out at n) = λ a h. refl
calls-leave_link w x r unhinted (Exit code) = λ a h. refl
