-- How many words the shadow executes from a block to the next, in the block and in its helpers.
use Rattle.std.proofs.Common.{◌≡◌, ℕ, ◌+◌, List, [], ◌∷◌, pos, refl}
use Rattle.spec_base.specs.Layout.{shadow_start, helpers_start}
use Rattle.spec_base.specs.declared.note.Move.TheVariants.{S}
use Rattle.spec_base.specs.declared.note.ShadowState.{ShadowState}
use Rattle.spec_base.specs.declared.note.ShadowState.TheVariants.{Running, Parked}
use Rattle.spec_base.specs.declared.park.Park.TheVariants as park
use Rattle.rv_decode.specs.declared.instr.Instr.{Instr}
use Rattle.rv_decode.specs.declared.instr.Instr.TheVariants.{Jal, Jalr, Branch, Load, Store, Ecall}
use Rattle.rv_decode.specs.declared.instr.StoreOp.TheVariants.{Sb, Sd}
use Rattle.rv_decode.specs.declared.instr.BranchOp.TheVariants.{Beq}
use Rattle.rv_decode.specs.declared.instr.LoadOp.TheVariants.{Lbu, Ld}
use Rattle.rv_decode.specs.Instruction.{instr_of}
use Rattle.rv_model.specs.Memory.{patched, stored, loaded, bytes_at, all_from}
use Rattle.rv_model.specs.Registers.{with_reg, all_zero}
use Rattle.program_model.specs.Calls.{name_from}
use Rattle.program_model.specs.Cache.{gather}
use Rattle.code_model.specs.Places.{RESTART}
use Rattle.code_model.specs.Regions.{shadowed, with_copies, set_in_copies, uncopied, slots_in_use, entry_of}
use Rattle.run_model.specs.Run.{World, Run, opened_run}
use Rattle.run_model.specs.Moves.{run_from}
use Rattle.model_rows.proofs.Programs.{program, of}

-- a run of a program whose shadow runs at word 1 of the first block; x8 is 0x200000, x6 is the address of the second instruction, x7 is 0x10000, and each other register is 0
abbrev started : World → Run
started w =
    let r = opened_run w in
    record r { shadow = record r.shadow { registers = with_reg (with_reg (with_reg all_zero 8 0x200000) 6 0x1007C) 7 0x10000; pc = shadow_start + 4; state = Running } }

-- the state, the pc, the arrivals, the words, the regions in use, and the entries of regions 0x2000 and 0x2001, after n words
abbrev seen : Run → ShadowState × ℕ × List ℕ
seen r = (r.shadow.state, r.shadow.pc, r.since.shadow ∷ r.since.words ∷ slots_in_use r.shared ∷ entry_of r.shared 0x2000 ∷ entry_of r.shared 0x2001 ∷ [])

abbrev after_words : ℕ → List Instr → Run
after_words n instrs = let w = program instrs in run_from w (started w) (of S n)

-- ---- a store to a region without a copy makes the copy

-- sd x0,0(x8) twice, then sd x0,256(x8)
abbrev three_stores : List Instr
three_stores = Store Sd 8 0 (pos 0) ∷ Store Sd 8 0 (pos 0) ∷ Store Sd 8 0 (pos 256) ∷ []

-- the store takes 226 words: it has not arrived after 225, and has after 226
first_store-before : seen (after_words 225 three_stores) ≡ (Running, 0x40000024, 0 ∷ 225 ∷ 1 ∷ 1 ∷ 0 ∷ [])
unfolding run_from instr_of patched loaded bytes_at all_from name_from gather shadowed with_copies set_in_copies uncopied
first_store-before = refl

first_store : seen (after_words 226 three_stores) ≡ (Running, 0x40000044, 1 ∷ 226 ∷ 1 ∷ 1 ∷ 0 ∷ [])
unfolding run_from instr_of patched loaded bytes_at all_from name_from gather shadowed with_copies set_in_copies uncopied
first_store = refl

-- a store to a region with a copy takes 40 words
second_store : seen (after_words (226 + 40) three_stores) ≡ (Running, 0x40000084, 2 ∷ 266 ∷ 1 ∷ 1 ∷ 0 ∷ [])
unfolding run_from instr_of patched loaded bytes_at all_from name_from gather shadowed with_copies set_in_copies uncopied
second_store = refl

second_store-before : seen (after_words (226 + 39) three_stores) ≡ (Running, 0x40000064, 1 ∷ 265 ∷ 1 ∷ 1 ∷ 0 ∷ [])
unfolding run_from instr_of patched loaded bytes_at all_from name_from gather shadowed with_copies set_in_copies uncopied
second_store-before = refl

-- the third store finds no free slot: it parks, and executes no further word
third_store-before : seen (after_words (226 + 40 + 35) three_stores) ≡ (Running, 0x41100460, 2 ∷ 301 ∷ 1 ∷ 1 ∷ 0 ∷ [])
unfolding run_from instr_of patched loaded bytes_at all_from name_from gather shadowed with_copies set_in_copies uncopied
third_store-before = refl

third_store : seen (after_words 400 three_stores) ≡ (Parked park.Regions, 0x41100464, 2 ∷ 302 ∷ 1 ∷ 1 ∷ 0 ∷ [])
unfolding run_from instr_of patched loaded bytes_at all_from name_from gather shadowed with_copies set_in_copies uncopied
third_store = refl

-- sd x31,0(x8) has one word more
store_of_x31-before : seen (after_words 226 (Store Sd 8 31 (pos 0) ∷ [])) ≡ (Running, 0x40000028, 0 ∷ 226 ∷ 1 ∷ 1 ∷ 0 ∷ [])
unfolding run_from instr_of patched loaded bytes_at all_from name_from gather shadowed with_copies set_in_copies uncopied
store_of_x31-before = refl

store_of_x31 : seen (after_words 227 (Store Sd 8 31 (pos 0) ∷ [])) ≡ (Running, 0x40000044, 1 ∷ 227 ∷ 1 ∷ 1 ∷ 0 ∷ [])
unfolding run_from instr_of patched loaded bytes_at all_from name_from gather shadowed with_copies set_in_copies uncopied
store_of_x31 = refl

-- a store of a byte takes as many words as one of 8
store_of_a_byte : seen (after_words 226 (Store Sb 8 0 (pos 3) ∷ [])) ≡ (Running, 0x40000044, 1 ∷ 226 ∷ 1 ∷ 1 ∷ 0 ∷ [])
unfolding run_from instr_of patched loaded bytes_at all_from name_from gather shadowed with_copies set_in_copies uncopied
store_of_a_byte = refl

-- sd x8,0(x7), before the text: the helper doesn't look at the text's end, which saves 3 words
store_before_text : seen (after_words 223 (Store Sd 7 8 (pos 0) ∷ [])) ≡ (Running, 0x40000044, 1 ∷ 223 ∷ 1 ∷ 0 ∷ 0 ∷ [])
unfolding run_from instr_of patched loaded bytes_at all_from name_from gather shadowed with_copies set_in_copies uncopied
store_before_text = refl

-- what the shadow sees changes at the block's own store, the 221st word executed, and the program's memory doesn't; the copy has the text's word of the same region
abbrev numbers : Run → ℕ × ℕ × ℕ
numbers r = (loaded (shadowed r.shared r.own.memory) 0x10000 8, loaded r.own.memory 0x10000 8, loaded r.shared 0x45000078 4)

stored_beside_text-before : numbers (after_words 220 (Store Sd 7 8 (pos 0) ∷ [])) ≡ (0, 0, 0x0083B023)
unfolding run_from instr_of patched loaded bytes_at all_from name_from gather shadowed with_copies set_in_copies uncopied
stored_beside_text-before = refl

stored_beside_text : numbers (after_words 221 (Store Sd 7 8 (pos 0) ∷ [])) ≡ (0x200000, 0, 0x0083B023)
unfolding run_from instr_of patched loaded bytes_at all_from name_from gather shadowed with_copies set_in_copies uncopied
stored_beside_text = refl

-- ---- a load of 8 bytes, before its region has a copy and after

-- ld x5,0(x8), sd x0,0(x8), ld x5,0(x8)
abbrev loads_around : List Instr
loads_around = Load Ld 5 8 (pos 0) ∷ Store Sd 8 0 (pos 0) ∷ Load Ld 5 8 (pos 0) ∷ []

-- 34 words without a copy, and 40 with it
first_load-before : seen (after_words 33 loads_around) ≡ (Running, 0x40000024, 0 ∷ 33 ∷ 0 ∷ 0 ∷ 0 ∷ [])
unfolding run_from instr_of patched loaded bytes_at all_from name_from gather shadowed with_copies set_in_copies uncopied
first_load-before = refl

first_load : seen (after_words 34 loads_around) ≡ (Running, 0x40000044, 1 ∷ 34 ∷ 0 ∷ 0 ∷ 0 ∷ [])
unfolding run_from instr_of patched loaded bytes_at all_from name_from gather shadowed with_copies set_in_copies uncopied
first_load = refl

second_load-before : seen (after_words (34 + 226 + 39) loads_around) ≡ (Running, 0x400000A4, 2 ∷ 299 ∷ 1 ∷ 1 ∷ 0 ∷ [])
unfolding run_from instr_of patched loaded bytes_at all_from name_from gather shadowed with_copies set_in_copies uncopied
second_load-before = refl

second_load : seen (after_words (34 + 226 + 40) loads_around) ≡ (Running, 0x400000C4, 3 ∷ 300 ∷ 1 ∷ 1 ∷ 0 ∷ [])
unfolding run_from instr_of patched loaded bytes_at all_from name_from gather shadowed with_copies set_in_copies uncopied
second_load = refl

-- ---- an access at which the program would trap parks: a load from its text, and a store off a multiple of the width

load_from_text : seen (after_words 60 (Load Lbu 5 6 (pos 0) ∷ Load Lbu 5 6 (pos 0) ∷ [])) ≡ (Parked park.Fault, 0x41100460, 0 ∷ 21 ∷ 0 ∷ 0 ∷ 0 ∷ [])
unfolding run_from instr_of patched loaded bytes_at all_from name_from gather shadowed with_copies set_in_copies uncopied
load_from_text = refl

store_misaligned : seen (after_words 60 (Store Sd 8 0 (pos 4) ∷ [])) ≡ (Parked park.Fault, 0x41100460, 0 ∷ 11 ∷ 0 ∷ 0 ∷ 0 ∷ [])
unfolding run_from instr_of patched loaded bytes_at all_from name_from gather shadowed with_copies set_in_copies uncopied
store_misaligned = refl

-- ---- jumps

-- in the text, and out of it
jal-inside : seen (after_words 6 (Jal 1 (pos 4) ∷ Jal 1 (pos 0) ∷ [])) ≡ (Running, 0x40000044, 1 ∷ 6 ∷ 0 ∷ 0 ∷ 0 ∷ [])
unfolding run_from instr_of patched loaded bytes_at all_from name_from gather shadowed with_copies set_in_copies uncopied
jal-inside = refl

jal-outside : seen (after_words 60 (Jal 1 (pos 4096) ∷ [])) ≡ (Parked park.Fault, 0x40000008, 0 ∷ 1 ∷ 0 ∷ 0 ∷ 0 ∷ [])
unfolding run_from instr_of patched loaded bytes_at all_from name_from gather shadowed with_copies set_in_copies uncopied
jal-outside = refl

-- a branch out of the text, taken and not taken
beq-outside_taken : seen (after_words 60 (Branch Beq 5 0 (pos 2048) ∷ [])) ≡ (Parked park.Fault, 0x40000010, 0 ∷ 2 ∷ 0 ∷ 0 ∷ 0 ∷ [])
unfolding run_from instr_of patched loaded bytes_at all_from name_from gather shadowed with_copies set_in_copies uncopied
beq-outside_taken = refl

beq-outside_not_taken : seen (after_words 2 (Branch Beq 8 0 (pos 2048) ∷ [])) ≡ (Running, 0x40000044, 1 ∷ 2 ∷ 0 ∷ 0 ∷ 0 ∷ [])
unfolding run_from instr_of patched loaded bytes_at all_from name_from gather shadowed with_copies set_in_copies uncopied
beq-outside_not_taken = refl

-- by register: to the second instruction, out of the text, and off a multiple of 4
jalr-inside : seen (after_words 25 (Jalr 1 6 (pos 0) ∷ Jalr 1 6 (pos 0) ∷ [])) ≡ (Running, 0x40000044, 1 ∷ 25 ∷ 0 ∷ 0 ∷ 0 ∷ [])
unfolding run_from instr_of patched loaded bytes_at all_from name_from gather shadowed with_copies set_in_copies uncopied
jalr-inside = refl

jalr-outside : seen (after_words 60 (Jalr 1 8 (pos 0) ∷ [])) ≡ (Parked park.Fault, 0x41100460, 0 ∷ 20 ∷ 0 ∷ 0 ∷ 0 ∷ [])
unfolding run_from instr_of patched loaded bytes_at all_from name_from gather shadowed with_copies set_in_copies uncopied
jalr-outside = refl

jalr-off_4 : seen (after_words 60 (Jalr 1 6 (pos 2) ∷ [])) ≡ (Parked park.Fault, 0x41100460, 0 ∷ 14 ∷ 0 ∷ 0 ∷ 0 ∷ [])
unfolding run_from instr_of patched loaded bytes_at all_from name_from gather shadowed with_copies set_in_copies uncopied
jalr-off_4 = refl

-- a call that is no keyed read, number 0
call-without_key : seen (after_words 13 (Ecall ∷ [])) ≡ (Running, 0x40000044, 1 ∷ 13 ∷ 0 ∷ 0 ∷ 0 ∷ [])
unfolding run_from instr_of patched loaded bytes_at all_from name_from gather shadowed with_copies set_in_copies uncopied
call-without_key = refl

-- ---- a restart: from the first word of its helper to the block behind the site, with 5 words for each region in use

-- the site in the box is 0x10078, and each of its registers is 0
abbrev restarting : Run → Run
restarting r = record r { shadow = record r.shadow { pc = helpers_start + RESTART }; shared = stored r.shared 0x42001000 8 0x10078 }

restart-no_region : seen (let w = program three_stores in run_from w (restarting (started w)) (of S 63)) ≡ (Running, 0x40000044, 1 ∷ 63 ∷ 0 ∷ 0 ∷ 0 ∷ [])
unfolding run_from instr_of patched loaded bytes_at all_from name_from gather shadowed with_copies set_in_copies uncopied
restart-no_region = refl

-- the region that the first store copied is free again
restart-one_region : seen (let w = program three_stores in run_from w (restarting (after_words 226 three_stores)) (of S 68)) ≡ (Running, 0x40000044, 2 ∷ 294 ∷ 0 ∷ 0 ∷ 0 ∷ [])
unfolding run_from instr_of patched loaded bytes_at all_from name_from gather shadowed with_copies set_in_copies uncopied
restart-one_region = refl
