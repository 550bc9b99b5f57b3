-- The state of a run of a rewritten program: two harts, what they share, the cache, and the counts (this project's own).
use Rattle.std.specs.Prelude.{ℕ, zero, suc, ◌+◌, ◌*◌, ◌/◌, ◌%◌, Bool, true, false, List, [], ◌∷◌, map, slice_get, Option, Some, None}
use Rattle.std.specs.Option.{option_and_then}
use Rattle.spec_base.specs.Files.{Files}
use Rattle.spec_base.specs.declared.layout.Layout.{Layout}
use Rattle.spec_base.specs.declared.machine.Trap.{Trap}
use Rattle.spec_base.specs.declared.machine.View.{View}
use Rattle.spec_base.specs.declared.machine.View.TheVariants.{Program}
use Rattle.spec_base.specs.declared.note.ShadowState.{ShadowState}
use Rattle.spec_base.specs.declared.note.ShadowState.TheVariants.{Never}
use Rattle.spec_base.specs.declared.note.Note.{Note}
use Rattle.spec_base.specs.declared.spot.ReadSpot.{ReadSpot}
use Rattle.rv_decode.specs.declared.instr.Instr.{Instr}
use Rattle.rv_model.specs.Memory.{Memory, zeros}
use Rattle.rv_model.specs.Registers.{Registers, all_zero}
use Rattle.program_model.specs.Descriptors.{Descriptors}
use Rattle.program_model.specs.PlainRun.{State, Image, text_of}
use Rattle.program_model.specs.Cache.{Cache, empty_cache}
use Rattle.code_model.specs.Patch.{patched_instr, patched_word}

-- ---- what doesn't change in a run: the original program, and the files

-- the program and the files
pub record World : Type 0 where
  pub image : Image
  pub files : Files

-- the text of the rewritten program
abbrev pub rewritten_text : World → List Instr
rewritten_text w = map patched_instr (text_of w.image)

-- the same as words
abbrev pub rewritten_words : World → List ℕ
rewritten_words w = map patched_word w.image.words

-- ---- how a run ends

-- by an exit, by a trap, or by a fault of the store or of a sink
pub data RunEnd : Type 0 where
  Exits : (code : ℕ) → RunEnd
  Traps : Trap → (pc : ℕ) → RunEnd
  StoreFailed : RunEnd
  SinkFailed : RunEnd

-- ---- what the outside answered in a move: what files and sinks say, a put that took so many bytes, a failure, or a block that is lost for want of memory

-- one of these for each move
pub data Answer : Type 0 where
  Usual : Answer
  Took : (count : ℕ) → Answer
  Failed : Answer
  Lost : Answer

-- ---- the shadow's hart

-- its registers, pc and descriptors, and whether it runs
pub record ShadowHart : Type 0 where
  pub registers : Registers
  pub pc : ℕ
  pub files : Descriptors
  pub state : ShadowState

-- ---- what is known since the last restart

-- counts and lists that begin anew at each restart
pub record Since : Type 0 where
  -- completed own instructions, the restarting read first
  pub own : ℕ
  -- the shadow's arrivals at blocks
  pub shadow : ℕ
  -- the own hart has never been past the shadow
  pub ahead : Bool
  -- each put was taken whole
  pub whole : Bool
  pub hints : List ReadSpot
  -- the numbers of the reads that the shadow filled
  pub filled : List ℕ
  -- the own state just before the restarting read
  pub origin : Option State
  -- the shadow's words
  pub words : ℕ
  -- the regions in use at the restart
  pub regions : ℕ

-- before the first restart nothing is behind
abbrev pub since_start : Since
since_start = record { own = 0; shadow = 0; ahead = true; whole = true; hints = []; filled = []; origin = None; words = 0; regions = 0 }

-- ---- the run

-- all of a rewritten program while it runs
pub record Run : Type 0 where
  -- the own hart, its memory, files and outputs: a plain state
  pub own : State
  -- where it met its last gate, and its state there
  pub site : ℕ
  pub at_gate : State
  -- Program, or Stub
  pub view : View
  -- the stub has restarted the shadow for this call
  pub asked : Bool
  -- it waits for the demanded block
  pub stalled : Bool
  -- how many blocks its read has
  pub gathered : ℕ
  -- the stub's private page
  pub own_page : Memory
  pub shadow : ShadowHart
  pub shadow_page : Memory
  -- link, table, list and copies
  pub shared : Memory
  pub cache : Cache
  pub since : Since
  -- counts over the run
  pub moves : ℕ
  pub own_done : ℕ
  pub stalls : ℕ
  pub restarts : ℕ
  pub matched : ℕ
  pub hints : ℕ
  pub regions_most : ℕ
  pub end : Option RunEnd
  -- what the last move told, and the bytes that its put took
  pub notes : List Note
  pub text : List ℕ

-- a shadow that was never restarted
abbrev pub no_shadow : Descriptors → ShadowHart
no_shadow files = record { registers = all_zero; pc = 0; files = files; state = Never }

-- the run in which a rewritten program is opened
abbrev pub opened_run : World → Run
opened_run w =
    record {
      own = w.image.start;
      site = 0;
      at_gate = w.image.start;
      view = Program;
      asked = false;
      stalled = false;
      gathered = 0;
      own_page = zeros;
      shadow = no_shadow w.image.start.files;
      shadow_page = zeros;
      shared = zeros;
      cache = empty_cache;
      since = since_start;
      moves = 0;
      own_done = 0;
      stalls = 0;
      restarts = 0;
      matched = 0;
      hints = 0;
      regions_most = 0;
      end = None;
      notes = [];
      text = [];
    }
