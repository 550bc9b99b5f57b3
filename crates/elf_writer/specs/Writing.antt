-- What writing a file comes to (this project's own).
use Rattle.std.specs.Prelude.{ℕ, Bool, true, false}
use Rattle.elf_writer.specs.declared.source.Parts.{Parts}
use Rattle.elf_writer.specs.declared.writing.Written.{Written}
use Rattle.elf_writer.specs.declared.writing.Written.TheVariants.{Done, SinkFault}
use Rattle.elf_writer.specs.RewrittenFile.{Code}

abbrev pub is_done : Written → Bool
is_done (Done length) = true
is_done SinkFault = false

-- a fact of the length that was written
abbrev pub IfDone : Written → (ℕ → Type 0) → Type 0
IfDone (Done length) P = P length
IfDone SinkFault P = Unit {0}

-- the code that parts list
abbrev pub listed : Parts → Code
listed parts = record { text = parts.text.items; shadow = parts.shadow.items; helpers = parts.helpers.items; stub = parts.stub.items }
