-- The exit code and the text of each status (this project's own).
use Rattle.std.specs.Prelude.{ℕ, Bool, false, List, [], ◌∷◌, ◌++◌, codes, decimal}
use Rattle.std.specs.Fmt.{digits}
use Rattle.world_io.specs.Outside.{SinkState}
use Rattle.world_io.specs.Texts.{PutsText}
use Rattle.elf_image.specs.Refusals.{refusal_name, refusal_number}
use Rattle.trace_text.specs.Line.{trap_name}
use Rattle.command_status.specs.declared.status.Status.{Status}
use Rattle.command_status.specs.declared.status.Status.TheVariants.{Done, Exited, Trapped, TurnsOver, Usage, Absent, Refused, BadLine, TooMany, StoreFault, SinkFault, NoMemory}

-- the exit code: the program's own, or one that tells why there is none
abbrev pub code_of : Status → ℕ
code_of Done = 0
code_of (Exited code) = code
code_of TooMany = 117
code_of (BadLine n) = 118
code_of Absent = 119
code_of Usage = 120
code_of (Refused why) = 121
code_of StoreFault = 122
code_of SinkFault = 123
code_of (TurnsOver count) = 124
code_of NoMemory = 125
code_of (Trapped cause pc) = 126

-- ---- the text of a status, in seven parts. The name is the word for the image or the trace

-- how it begins
abbrev pub opening : Status → List ℕ
opening Done = []
opening (Exited code) = []
opening SinkFault = []
opening Absent = codes "spechint: cannot find "
opening Usage = codes "spechint: usage: spechint plain|rewrite|run|trace [OPTIONS] IMAGE [ARGS], or spechint demo N"
opening (Refused why) = codes "spechint: "
opening (BadLine n) = codes "spechint: "
opening TooMany = codes "spechint: "
opening StoreFault = codes "spechint: read fault"
opening NoMemory = codes "spechint: out of memory"
opening (Trapped cause pc) = codes "spechint: trap "
opening (TurnsOver count) = codes "spechint: turns over after "

-- what it speaks of
abbrev pub subject : Status → List ℕ → List ℕ
subject Absent name = name
subject (Refused why) name = name
subject (BadLine n) name = name
subject TooMany name = name
subject (Trapped cause pc) name = trap_name cause
subject other name = []

-- what stands between
abbrev pub joint : Status → List ℕ
joint (Refused why) = codes ": refused: E"
joint (BadLine n) = codes ": bad line "
joint TooMany = codes ": too many needs"
joint (Trapped cause pc) = codes " at 0x"
joint other = []

-- the pc of a trap, and else 0
abbrev pub pc_of : Status → ℕ
pc_of (Trapped cause pc) = pc
pc_of other = 0

-- how many instructions were completed where all turns are over, the number of a refusal or of a bad line, and else 0
abbrev pub count_of : Status → ℕ
count_of (TurnsOver count) = count
count_of (Refused why) = refusal_number why
count_of (BadLine n) = n
count_of other = 0

-- an address in lower-case hexadecimal, or a count
abbrev pub detail : Status → List ℕ
detail (Trapped cause pc) = digits 16 false pc
detail (TurnsOver count) = decimal count
detail (Refused why) = decimal (refusal_number why)
detail (BadLine n) = decimal n
detail other = []

-- what stands before a reason
abbrev pub gap : Status → List ℕ
gap (Refused why) = codes " "
gap other = []

-- a reason
abbrev pub reason : Status → List ℕ
reason (Refused why) = refusal_name why
reason other = []

-- how it ends
abbrev pub closing : Status → List ℕ
closing Done = []
closing (Exited code) = []
closing SinkFault = []
closing (TurnsOver count) = codes " instructions" ++ 10 ∷ []
closing other = 10 ∷ []

-- the whole text
abbrev pub text_of : Status → List ℕ → List ℕ
text_of status name =
    opening status ++ (subject status name ++ (joint status ++ (detail status ++ (gap status ++ (reason status ++ closing status)))))

-- the text of a status was put on `err`, whole or up to a put that failed
abbrev pub Tells : Status → List ℕ → SinkState → SinkState → Type 0
Tells status name old new = (whole : Bool) × PutsText old (text_of status name) whole new
