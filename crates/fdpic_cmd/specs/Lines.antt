-- The line of a status on err.
use Rattle.std.specs.Prelude.{ℕ, List, [], ◌∷◌, ◌++◌, codes, decimal}
use Rattle.fd_base.specs.Texts.{shown}
use Rattle.elf_model.specs.declared.refusal.ElfKind.{ElfKind}
use Rattle.elf_model.specs.declared.refusal.ElfKind.TheVariants.{Short, Ident, Machine, FileType, Header, SegmentRange, SegmentOverlap, TooMany, DynRange, Rela, NoGot, NoCount, Table, NameRange, Tls, Thumb, TextRel, RelocType, SiteRange, SiteOverlap, Group, FunctionPlace}
use Rattle.elf_model.specs.declared.refusal.ElfRefusal.{ElfRefusal}
use Rattle.fdpic_cmd.specs.declared.status.Status.{Status}
use Rattle.fdpic_cmd.specs.declared.status.Status.TheVariants.{Done, Memory, Words, StoreFault, SinkFault, Refused, Stopped}
use Rattle.fdpic_cmd.specs.declared.status.Refusal.{Refusal}
use Rattle.fdpic_cmd.specs.declared.status.Refusal.TheVariants.{Elf as NoObject, NoFile as NoSuchFile, TooLong as FileTooLong, Job, Asm, Link, OutTooLong, Load}
use Rattle.load_model.specs.declared.error.LoadRefusal.{LoadRefusal}
use Rattle.load_model.specs.declared.error.LoadRefusal.TheVariants.{NotBuilt, Elf, NoFile, TooLong, TooManyModules, Unresolved, NotCode, DescriptorsFull, NoRoom, BadAddress}
use Rattle.job_text.specs.declared.refusal.JobKind.{JobKind}
use Rattle.job_text.specs.declared.refusal.JobKind.TheVariants.{First, Word, Form, Range, Twice, TooMany as TooManyLines, NoProgram, Small}
use Rattle.link_model.specs.declared.error.Site.{Site}
use Rattle.link_model.specs.declared.error.LinkRefusal.{LinkRefusal}
use Rattle.link_model.specs.declared.error.LinkRefusal.TheVariants as link
use Rattle.a32_text.specs.declared.refusal.AsmKind.{AsmKind}
use Rattle.a32_text.specs.declared.refusal.AsmKind.TheVariants as asm
use Rattle.fd_base.specs.Fields.{decimal_field, hex_field, name_field}

-- the word of a kind
abbrev pub kind_word : ElfKind → List ℕ
kind_word Short = codes "Short"
kind_word Ident = codes "Ident"
kind_word Machine = codes "Machine"
kind_word FileType = codes "FileType"
kind_word Header = codes "Header"
kind_word SegmentRange = codes "SegmentRange"
kind_word SegmentOverlap = codes "SegmentOverlap"
kind_word TooMany = codes "TooMany"
kind_word DynRange = codes "DynRange"
kind_word Rela = codes "Rela"
kind_word NoGot = codes "NoGot"
kind_word NoCount = codes "NoCount"
kind_word Table = codes "Table"
kind_word NameRange = codes "NameRange"
kind_word Tls = codes "Tls"
kind_word Thumb = codes "Thumb"
kind_word TextRel = codes "TextRel"
kind_word RelocType = codes "RelocType"
kind_word SiteRange = codes "SiteRange"
kind_word SiteOverlap = codes "SiteOverlap"
kind_word Group = codes "Group"
kind_word FunctionPlace = codes "FunctionPlace"

-- a failing test: the word of its kind, and the offset in decimal
unfoldable pub test_text : ElfRefusal → List ℕ
test_text e = kind_word e.kind ++ codes " at " ++ decimal e.at

-- what is said of a refused load: the word of its kind, and its fields in order
unfoldable pub load_text : LoadRefusal → List ℕ
load_text (NotBuilt name) = codes "NotBuilt " ++ shown name
load_text (NoFile name) = codes "NoFile " ++ shown name
load_text (TooLong name) = codes "TooLong " ++ shown name
load_text (Elf name e) = codes "Elf " ++ shown name ++ codes " " ++ test_text e
load_text TooManyModules = codes "TooManyModules"
load_text (Unresolved m name) = codes "Unresolved" ++ decimal_field m ++ name_field name
load_text (NotCode m name) = codes "NotCode" ++ decimal_field m ++ name_field name
load_text (DescriptorsFull n) = codes "DescriptorsFull" ++ decimal_field n
load_text (NoRoom item) = codes "NoRoom" ++ decimal_field item
load_text (BadAddress m site) = codes "BadAddress" ++ decimal_field m ++ hex_field site

-- the word of a kind of jobs' refusals
abbrev pub job_word : JobKind → List ℕ
job_word First = codes "First"
job_word Word = codes "Word"
job_word Form = codes "Form"
job_word Range = codes "Range"
job_word Twice = codes "Twice"
job_word TooManyLines = codes "TooMany"
job_word NoProgram = codes "NoProgram"
job_word Small = codes "Small"

-- the word of a kind of assemblies' refusals
abbrev pub asm_word : AsmKind → List ℕ
asm_word asm.Mnemonic = codes "Mnemonic"
asm_word asm.Operand = codes "Operand"
asm_word asm.Range = codes "Range"
asm_word asm.Directive = codes "Directive"
asm_word asm.LabelTwice = codes "LabelTwice"
asm_word asm.NoLabel = codes "NoLabel"
asm_word asm.LineLong = codes "LineLong"

-- what is wrong with a line of a text
abbrev pub line_text : List ℕ → List ℕ → ℕ → List ℕ
line_text word kind line = word ++ kind ++ codes " line " ++ decimal line

-- a relocation's input, section and offset
abbrev pub site_text : Site → List ℕ
site_text s = decimal_field s.input ++ decimal_field s.section ++ decimal_field s.offset

-- what is said of a refused link: the word of its kind, and its fields in order
unfoldable pub link_text : LinkRefusal → List ℕ
link_text (link.Elf k) = codes "Elf" ++ decimal_field k
link_text (link.Twice name) = codes "Twice " ++ shown name
link_text (link.Undefined name) = codes "Undefined " ++ shown name
link_text (link.CrossSegment s) = codes "CrossSegment" ++ site_text s
link_text (link.RelocType s) = codes "RelocType" ++ site_text s
link_text (link.ThumbBranch s) = codes "ThumbBranch" ++ site_text s
link_text link.NoEntry = codes "NoEntry"
link_text link.TooLarge = codes "TooLarge"
link_text (link.LibElf k) = codes "LibElf" ++ decimal_field k

-- what is said of a refusal
unfoldable pub refusal_text : Refusal → List ℕ
refusal_text (NoObject name e) = shown name ++ codes " elf " ++ test_text e
refusal_text (NoSuchFile name) = codes "no file " ++ shown name
refusal_text (FileTooLong name) = codes "too long " ++ shown name
refusal_text (Job line kind) = line_text (codes "job ") (job_word kind) line
refusal_text (Asm r) = line_text (codes "asm ") (asm_word r.kind) r.line
refusal_text (Link r) = codes "link " ++ link_text r
refusal_text (OutTooLong n) = codes "output too long" ++ decimal_field n
refusal_text (Load r) = codes "load " ++ load_text r

-- what is said of a status
unfoldable pub status_text : Status → List ℕ
status_text Done = []
status_text Memory = codes "out of memory"
status_text Words = codes "words"
status_text StoreFault = codes "store fault"
status_text SinkFault = codes "sink fault"
status_text (Refused r) = refusal_text r
status_text (Stopped why) = codes "stopped"

abbrev pub line : List ℕ → List ℕ
line text = codes "fdpic: " ++ text ++ 10 ∷ []

-- the line of a status; none for Done
abbrev pub line_of : Status → List ℕ
line_of Done = []
line_of status = line (status_text status)
