-- In every run the shadow's registers are below 2^64, all that it loads from has bytes, and its descriptors are lawful: so the key of its call is a number of 64 bits.
use Rattle.std.proofs.Common.{◌≡◌, ℕ, suc, ◌+◌, ◌-◌, ◌*◌, ◌/◌, ◌^◌, ◌<◌, Bool, true, false, ◌&&◌, pos, List, [], ◌∷◌, length, get_or, Option, Some, None, refl, sym, subst, lit<}
use Rattle.spec_base.specs.Word.{byte_of}
use Rattle.spec_base.specs.Files.{Name}
use Rattle.spec_base.specs.declared.layout.Layout.{Layout}
use Rattle.spec_base.specs.declared.machine.View.TheVariants.{Shadow}
use Rattle.spec_base.specs.declared.note.ShadowState.{ShadowState}
use Rattle.spec_base.specs.declared.note.ShadowState.TheVariants.{Never, Running, Stopped, Parked}
use Rattle.spec_base.specs.declared.note.Move.{Move}
use Rattle.spec_base.specs.declared.note.Move.TheVariants.{O, S, T, D}
use Rattle.spec_base.specs.declared.spot.BlockSpot.{BlockSpot}
use Rattle.spec_base.specs.declared.spot.ReadSpot.{ReadSpot}
use Rattle.rv_decode.specs.declared.instr.Instr.{Instr}
use Rattle.rv_decode.specs.declared.instr.Instr.TheVariants.{Hkey, Hcall, Hpark}
use Rattle.rv_model.specs.Memory.{Memory, patched, stored}
use Rattle.rv_model.specs.Registers.{Registers, reg}
use Rattle.rv_model.specs.Rights.{shadow_rights, in_private, in_range, in_text, is_data}
use Rattle.rv_model.specs.Effect.{Effect, Next, Stored, Trapped, Called, Gated, effect}
use Rattle.rv_model.specs.Space.{program_byte, text_byte, shadow_sees}
use Rattle.program_model.specs.Descriptors.{Descriptors}
use Rattle.program_model.specs.Calls.{CallPlan, Set, Look, Read, Write, Exit, bytes_read, kind_of, key_of, opened}
use Rattle.program_model.specs.Cache.{in_flight}
use Rattle.program_model.specs.PlainRun.{performed, plan_of, size_in}
use Rattle.code_model.specs.Regions.{with_copies, with_copy, with_copy_at, set_in_copies, new_regions, slots_in_use, slot_address, listed_address, entry_address, entry_of, copy_place, shadowed}
use Rattle.spec_base.specs.Layout.{list_start, image_limit}
use Rattle.run_model.specs.Run.{World, Run, RunEnd, Answer, Usual, Took, Failed, Lost, opened_run, rewritten_words}
use Rattle.run_model.specs.OwnMoves.{own_step}
use Rattle.run_model.specs.ShadowMoves.{fetch_shadow, is_running, is_arrival, arrived_if, shadow_plan, assumed, assumed_with, look_assumed, hint_given, fill_if, is_filled, shadow_gate, shadow_stores, shadow_after, shadow_at_word, shadow_in}
use Rattle.run_model.specs.Moves.{Moves, step, step_unless, moved, begun, run, run_from, fetch_of, shadow_while}
use Rattle.run_laws.specs.OwnLaws.{Accepted}
use Rattle.run_laws.specs.SoundLaws.{RunsAreSized}
use Rattle.own_laws.proofs.Bounds.{Words, with_reg-words, FileBytes, WordsAfter, effect-words, elim-below, byte_of-below, patched-bytes, get_or-below, bytes_read-below, size_in-small}
use Rattle.run_laws.specs.Numbers.{Lawful, IsSized}
use Rattle.own_laws.proofs.Offsets.{PlanFits, plan_by-fits, opened-lawful, after_read-lawful, start-lawful, key-small}
use Rattle.rv_model.proofs.Results.{Bytes, word_of_int-small}
use Rattle.own_laws.proofs.OwnSteps.{own_step-by, fetch_of-by}
use Rattle.own_laws.proofs.InvisibleShadow.{shadow_view}

-- ---- bytes

-- a number that is stored in bytes leaves bytes
stored-bytes : (m : Memory) (a width v : ℕ) → Bytes m → Bytes (stored m a width v)
stored-bytes m a width v h = patched-bytes m a width (byte_of v) h (byte_of-below v)

-- ---- what the shadow sees

module _ (l : Layout) (words : List ℕ) (program : Memory) (own : Bytes program) where
  -- a byte of the program range
  pub program-bytes : Bytes (program_byte l words program)
  program-bytes a = elim-below (in_text l a) (text_byte l words a) (program a) 256 (byte_of-below _ _) (own a)

  -- a byte of the shadow's view
  sees-bytes : (shared page : Memory) → Bytes shared → Bytes page → Bytes (shadow_sees l words program shared page)
  sees-bytes shared page h k a =
      elim-below (in_private a) (page a) _ 256 (k a) (elim-below (in_range l a) (program_byte l words program a) (shared a) 256 (program-bytes a) (h a))

  -- a copy has bytes
  copy-bytes : (slot : ℕ) (shared : Memory) (region : ℕ) → Bytes shared → Bytes (with_copy_at slot l words program shared region)
  copy-bytes slot shared region h =
      let copied : Memory = patched shared (slot_address slot) 256 (λ i. program_byte l words program (256 * region + i)) in
      let listed : Memory = stored copied (listed_address slot) 4 (entry_address region) in
      let counted : Memory = stored listed list_start 8 (slot + 1) in
      stored-bytes counted (entry_address region) 4 (slot + 1) (stored-bytes listed list_start 8 (slot + 1) (stored-bytes copied (listed_address slot) 4 (entry_address region)
      (patched-bytes shared (slot_address slot) 256 _ h (λ i. program-bytes (256 * region + i)))))

  -- so have several
  copies-bytes : (shared : Memory) (regions : List ℕ) → Bytes shared → Bytes (with_copies l words program shared regions)
  unfolding with_copies
  copies-bytes shared [] h = h
  copies-bytes shared (region ∷ regions) h = copies-bytes (with_copy l words program shared region) regions (copy-bytes (slots_in_use shared) shared region h)

-- bytes are set in copies
set-bytes : (shared : Memory) (a : ℕ) (bytes : List ℕ) → Bytes shared → ((i : ℕ) → get_or bytes i 0 < 256) → Bytes (set_in_copies shared a bytes)
unfolding set_in_copies
set-bytes shared a [] h k = h
set-bytes shared a (byte ∷ bytes) h k =
    set-bytes (patched shared (copy_place (entry_of shared (a / 256)) a) 1 (λ i. byte)) (a + 1) bytes (patched-bytes shared _ 1 (λ i. byte) h (λ i. k 0)) (λ i. k (suc i))

-- ---- what is kept

-- what numbers of the shadow come from
pub record Stock : Type 0 where
  pub own_memory : Memory
  pub own_files : Descriptors
  pub registers : Registers
  pub files : Descriptors
  pub page : Memory
  pub shared : Memory

abbrev pub stock_of : Run → Stock
stock_of r =
    record { own_memory = r.own.memory; own_files = r.own.files; registers = r.shadow.registers; files = r.shadow.files; page = r.shadow_page; shared = r.shared }

-- bytes, numbers below 2^64, and lawful descriptors
pub record Sized (s : Stock) : Type 0 where
  pub own_memory : Bytes s.own_memory
  pub own_files : Lawful s.own_files
  pub registers : Words s.registers
  pub files : Lawful s.files
  pub page : Bytes s.page
  pub shared : Bytes s.shared

-- the plan of the shadow's call fits its descriptors
pub shadow_plan-fits : (w : World) (r : Run) → Lawful r.shadow.files → PlanFits r.shadow.files (shadow_plan w r)
shadow_plan-fits w r h =
    plan_by-fits r.shadow.files h (is_data w.image.layout) (shadowed r.shared r.own.memory) (kind_of (reg r.shadow.registers 17)) (reg r.shadow.registers 10) (reg r.shadow.registers 11) (reg r.shadow.registers 12)

-- so its key is a number of 64 bits
pub shadow_key-small : (w : World) (r : Run) → Sized (stock_of r) → key_of (shadow_plan w r) < 2 ^ 64
shadow_key-small w r z = key-small r.shadow.files z.files (shadow_plan w r) (shadow_plan-fits w r z.files)

module _ (w : World) (h : FileBytes w.files) where
  abbrev Keeps : Run → Type 0
  Keeps r = Sized (stock_of r)

  -- ---- the shadow

  -- a look that is answered
  answered-keeps : (r : Run) (name : Name) → Keeps r → Keeps (assumed_with r (opened r.shadow.files name (size_in w.files name)))
  answered-keeps r name z =
      record {
        own_memory = z.own_memory;
        own_files = z.own_files;
        registers = with_reg-words r.shadow.registers 10 _ z.registers (word_of_int-small _);
        files = opened-lawful r.shadow.files z.files name (size_in w.files name) (size_in-small w.files h name);
        page = z.page;
        shared = z.shared;
      }

  -- a look
  look-keeps : (x : Answer) (r : Run) (name : Name) → Keeps r → Keeps (look_assumed w x r name)
  look-keeps Failed r name z = record { own_memory = z.own_memory; own_files = z.own_files; registers = z.registers; files = z.files; page = z.page; shared = z.shared }
  look-keeps Usual r name z = answered-keeps r name z
  look-keeps (Took k) r name z = answered-keeps r name z
  look-keeps Lost r name z = answered-keeps r name z

  -- a fill
  fill_if-keeps : (b : Bool) (spot : ReadSpot) (a : ℕ) (r : Run) → Keeps r → Keeps (fill_if b w spot a r)
  fill_if-keeps false spot a r z = z
  fill_if-keeps true spot a r z =
      record {
        own_memory = z.own_memory;
        own_files = z.own_files;
        registers = z.registers;
        files = z.files;
        page = z.page;
        shared =
            set-bytes _ a (bytes_read w.files spot) (copies-bytes w.image.layout (rewritten_words w) r.own.memory z.own_memory r.shared (new_regions r.shared a (length (bytes_read w.files spot) - 1)) z.shared)
            (get_or-below (bytes_read w.files spot) (bytes_read-below w.files spot h));
      }

  -- a hint
  hint-keeps : (unhinted : Bool) (spot : ReadSpot) (r : Run) → stock_of (hint_given unhinted spot r) ≡ stock_of r
  hint-keeps true spot r = refl
  hint-keeps false spot r = refl

  -- what a fill leaves of the shadow's hart
  fill_if-files : (b : Bool) (spot : ReadSpot) (a : ℕ) (r : Run) → ((fill_if b w spot a r).shadow ≡ r.shadow)
  fill_if-files true spot a r = refl
  fill_if-files false spot a r = refl

  -- a call
  assumed-keeps : (x : Answer) (r : Run) (unhinted : Bool) (c : CallPlan) → PlanFits r.shadow.files c → Keeps r → Keeps (assumed w x r unhinted c)
  assumed-keeps x r unhinted (Set f answer) l z =
      record {
        own_memory = z.own_memory;
        own_files = z.own_files;
        registers = with_reg-words r.shadow.registers 10 _ z.registers (word_of_int-small answer);
        files = l.by;
        page = z.page;
        shared = z.shared;
      }
  assumed-keeps x r unhinted (Look name) l z = look-keeps x r name z
  assumed-keeps x r unhinted (Read d spot a) l z =
      let hint : Run = hint_given unhinted spot r in
      let filled : Run = fill_if (is_filled w hint spot a spot.count) w spot a hint in
      let y : Keeps filled = fill_if-keeps (is_filled w hint spot a spot.count) spot a hint (subst (λ s. Sized s) (sym (hint-keeps unhinted spot r)) z) in
      record {
        own_memory = y.own_memory;
        own_files = y.own_files;
        registers = with_reg-words filled.shadow.registers 10 _ y.registers (word_of_int-small (pos spot.count));
        files = after_read-lawful r.shadow.files z.files d spot.count (l.by).2;
        page = y.page;
        shared = y.shared;
      }
  assumed-keeps x r unhinted (Write to_out a n) l z =
      record {
        own_memory = z.own_memory;
        own_files = z.own_files;
        registers = with_reg-words r.shadow.registers 10 _ z.registers (word_of_int-small (pos n));
        files = z.files;
        page = z.page;
        shared = z.shared;
      }
  assumed-keeps x r unhinted (Exit code) l z = record { own_memory = z.own_memory; own_files = z.own_files; registers = z.registers; files = z.files; page = z.page; shared = z.shared }

  -- a gate instruction
  gate-keeps : (x : Answer) (r : Run) (i : Instr) → Keeps r → Keeps (shadow_gate w x r i)
  gate-keeps x r (Hkey rd) z =
      record {
        own_memory = z.own_memory;
        own_files = z.own_files;
        registers = with_reg-words r.shadow.registers rd _ z.registers (shadow_key-small w r z);
        files = z.files;
        page = z.page;
        shared = z.shared;
      }
  gate-keeps x r (Hcall unhinted) z = assumed-keeps x r unhinted (shadow_plan w r) (shadow_plan-fits w r z.files) z
  gate-keeps x r (Hpark cause) z = record { own_memory = z.own_memory; own_files = z.own_files; registers = z.registers; files = z.files; page = z.page; shared = z.shared }
  gate-keeps x r _ z = z

  -- a store
  stores-keep : (b : Bool) (r : Run) (a width v : ℕ) → Keeps r → Keeps (shadow_stores b r a width v)
  stores-keep true r a width v z =
      record { own_memory = z.own_memory; own_files = z.own_files; registers = z.registers; files = z.files; page = stored-bytes r.shadow_page a width v z.page; shared = z.shared }
  stores-keep false r a width v z =
      record { own_memory = z.own_memory; own_files = z.own_files; registers = z.registers; files = z.files; page = z.page; shared = stored-bytes r.shared a width v z.shared }

  -- an effect
  after-keeps : (x : Answer) (r : Run) (e : Effect) → WordsAfter e → Keeps r → Keeps (shadow_after w x r e)
  after-keeps x r (Next rs pc) l z = record { own_memory = z.own_memory; own_files = z.own_files; registers = l.by; files = z.files; page = z.page; shared = z.shared }
  after-keeps x r (Stored a width v) l z = stores-keep (in_private a) r a width v z
  after-keeps x r (Trapped cause) l z = record { own_memory = z.own_memory; own_files = z.own_files; registers = z.registers; files = z.files; page = z.page; shared = z.shared }
  after-keeps x r (Gated i) l z = gate-keeps x r i z
  after-keeps x r Called l z = z

  -- an arrival counts, and so does a word
  counted-stock : (b : Bool) (r : Run) → stock_of (arrived_if b r) ≡ stock_of r
  counted-stock true r = refl
  counted-stock false r = refl

  -- a word
  word-keeps : (x : Answer) (r : Run) (o : Option Instr) → Keeps r → Keeps (shadow_at_word w x r o)
  word-keeps x r None z = record { own_memory = z.own_memory; own_files = z.own_files; registers = z.registers; files = z.files; page = z.page; shared = z.shared }
  word-keeps x r (Some i) z =
      let view : Memory = shadow_view w r in
      let bytes : Bytes view = sees-bytes w.image.layout (rewritten_words w) r.own.memory z.own_memory r.shared r.shadow_page z.shared z.page in
      let next : Run = shadow_after w x r (effect Shadow (shadow_rights w.image.layout) view r.shadow.registers r.shadow.pc i) in
      subst (λ s. Sized s) (sym (counted-stock (is_running next.shadow.state && is_arrival w.image.layout next.shadow.pc) next))
      (after-keeps x r _ (effect-words Shadow (shadow_rights w.image.layout) view r.shadow.registers r.shadow.pc z.registers bytes i) z)

  -- a word, if the shadow is running
  pub in-keeps : (s : ShadowState) (x : Answer) (r : Run) → Keeps r → Keeps (shadow_in s w x r)
  in-keeps Running x r z = word-keeps x r (fetch_shadow w r.shadow.pc) z
  in-keeps Never x r z = z
  in-keeps Stopped x r z = z
  in-keeps (Parked cause) x r z = z

  while-keeps : (b : Bool) (x : Answer) (r : Run) → Keeps r → Keeps (shadow_while b w x r)
  while-keeps true x r z = in-keeps r.shadow.state x r z
  while-keeps false x r z = z

  -- ---- the own hart

  -- a completed call
  performed-keeps : (k : ℕ) (c : CallPlan) (r : Run) → PlanFits r.own.files c → Keeps r → Sized (record (stock_of r) { own_memory = (performed w.files k c r.own).memory; own_files = (performed w.files k c r.own).files })
  performed-keeps k (Set f answer) r l z = record { own_memory = z.own_memory; own_files = l.by; registers = z.registers; files = z.files; page = z.page; shared = z.shared }
  performed-keeps k (Look name) r l z =
      record {
        own_memory = z.own_memory;
        own_files = opened-lawful r.own.files z.own_files name (size_in w.files name) (size_in-small w.files h name);
        registers = z.registers;
        files = z.files;
        page = z.page;
        shared = z.shared;
      }
  performed-keeps k (Read d spot a) r l z =
      record {
        own_memory = patched-bytes r.own.memory a _ _ z.own_memory (get_or-below (bytes_read w.files spot) (bytes_read-below w.files spot h));
        own_files = after_read-lawful r.own.files z.own_files d spot.count (l.by).2;
        registers = z.registers;
        files = z.files;
        page = z.page;
        shared = z.shared;
      }
  performed-keeps k (Write true a n) r l z = record { own_memory = z.own_memory; own_files = z.own_files; registers = z.registers; files = z.files; page = z.page; shared = z.shared }
  performed-keeps k (Write false a n) r l z = record { own_memory = z.own_memory; own_files = z.own_files; registers = z.registers; files = z.files; page = z.page; shared = z.shared }
  performed-keeps k (Exit code) r l z = record { own_memory = z.own_memory; own_files = z.own_files; registers = z.registers; files = z.files; page = z.page; shared = z.shared }

  -- the plan of the own call fits
  own_plan-fits : (r : Run) → Lawful r.own.files → PlanFits r.own.files (plan_of w.image.layout r.own)
  own_plan-fits r l = plan_by-fits r.own.files l (is_data w.image.layout) r.own.memory (kind_of (reg r.own.registers 17)) (reg r.own.registers 10) (reg r.own.registers 11) (reg r.own.registers 12)

  -- what an own move leads to
  own_step-keeps : (x : Answer) (r : Run) → Keeps r → Keeps (own_step w x r)
  own_step-keeps x r z =
      own_step-by w x r Keeps
      (record {
        stays = λ b. z;
        goes = λ rs pc. z;
        stores = λ a width v.
            record { own_memory = stored-bytes r.own.memory a width v z.own_memory; own_files = z.own_files; registers = z.registers; files = z.files; page = z.page; shared = z.shared };
        enters = z;
        computes = λ rs pc page. z;
        links = λ i a width v e f.
            record { own_memory = z.own_memory; own_files = z.own_files; registers = z.registers; files = z.files; page = z.page; shared = stored-bytes r.shared a width v z.shared };
        leaves = λ v. z;
        stops = z;
        restarts = λ v. record { own_memory = z.own_memory; own_files = z.own_files; registers = z.registers; files = z.own_files; page = z.page; shared = z.shared };
        performs_call = λ taken whole b h. performed-keeps taken (plan_of w.image.layout r.own) r (own_plan-fits r z.own_files) z;
      })

  -- ---- a fetch

  fetch-stock : (o : Option BlockSpot) (x : Answer) (r : Run) → stock_of (fetch_of o w x r) ≡ stock_of r
  fetch-stock o x r = fetch_of-by w x r (λ next. stock_of next ≡ stock_of r) (λ b. refl) o

  -- ---- each move

  moved-keeps : (x : Answer) (r : Run) (m : Move) → Keeps r → Keeps (moved w x r m)
  moved-keeps x r O z = own_step-keeps x r z
  moved-keeps x r S z = in-keeps r.shadow.state x r z
  moved-keeps x r T z = while-keeps r.stalled x r z
  moved-keeps x r D z = subst (λ s. Sized s) (sym (fetch-stock (in_flight r.cache) x r)) z

  step_unless-keeps : (e : Option RunEnd) (r : Run) (m : Move × Answer) → Keeps r → Keeps (step_unless e w r m)
  step_unless-keeps (Some e) r m z = z
  step_unless-keeps None r m z = moved-keeps m.1 (begun r) m.0 z

  run_from-keeps : (ms : Moves) (r : Run) → Keeps r → Keeps (run_from w r ms)
  unfolding run_from
  run_from-keeps [] r z = z
  run_from-keeps (m ∷ ms) r z = run_from-keeps ms (step w r m) (step_unless-keeps r.end r m z)

-- it is so in every run
pub run-sized : (w : World) → Accepted w → (ms : Moves) → Sized (stock_of (run w ms))
run-sized w a ms =
    let lawful : Lawful w.image.start.files = subst (λ f. Lawful f) (sym (a.descriptors).1) (start-lawful (a.descriptors).0 (image_limit w.image.layout.version)) in
    run_from-keeps w a.files ms (opened_run w)
    (record { own_memory = a.memory; own_files = lawful; registers = λ i. lit< tt; files = lawful; page = λ i. lit< tt; shared = λ i. lit< tt })

-- ---- the law

-- the numbers of a run, and those of its parts here
pub sized-of : (r : Run) → IsSized r → Sized (stock_of r)
sized-of r z = record { own_memory = z.own_memory; own_files = z.own_files; registers = z.registers; files = z.files; page = z.page; shared = z.shared }

pub of-sized : (r : Run) → Sized (stock_of r) → IsSized r
of-sized r z = record { own_memory = z.own_memory; own_files = z.own_files; registers = z.registers; files = z.files; page = z.page; shared = z.shared }

-- every run has such numbers
pub runs_are_sized : RunsAreSized
runs_are_sized w a ms = of-sized (run w ms) (run-sized w a ms)
