-- bind F TEXT DATA: the slots of a program whose first two segments are placed at these addresses.
use Rattle.std.specs.Prelude.{ℕ, List, [], ◌∷◌, if◌then◌else◌}
use Rattle.std.specs.Str.{bytes_eq}
use Rattle.fd_base.specs.Fetched.{Files}
use Rattle.load_model.specs.declared.error.LoadRefusal.{LoadRefusal}
use Rattle.load_model.specs.declared.error.LoadRefusal.TheVariants.{NotBuilt, Elf, NoFile, TooLong, TooManyModules, Unresolved, NotCode, DescriptorsFull, NoRoom, BadAddress}
use Rattle.load_model.specs.declared.plan.MemPlan.{MemPlan}
use Rattle.fdpic_cmd.specs.declared.status.Refusal.{Refusal}
use Rattle.fdpic_cmd.specs.declared.status.Refusal.TheVariants.{Elf as NoObject, NoFile as NoSuchFile, TooLong as FileTooLong, Load}
use Rattle.fdpic_cmd.specs.Outcome.{Outcome}
use Rattle.fdpic_cmd.specs.Program.{ProgramMeans}

-- the memory plan of a command that names no job: the two addresses are listed for the file
abbrev pub plan_of : List ℕ → ℕ → ℕ → MemPlan
plan_of file text data' = record {
  memory = 8388608;
  descriptors = 64;
  stack = 1024;
  places = record { name = file; addrs = text ∷ data' ∷ [] } ∷ [];
  threads = 8;
  processes = 1;
}

-- what is said of the file, where it has this name, and else of the load
abbrev pub of_file : List ℕ → List ℕ → Refusal → LoadRefusal → Refusal
of_file file name own other = if bytes_eq name file then own else Load other

-- Why loading is refused, as the command says it. That the file which the words name isn't there, is too long or is no
-- object, is said of the file. Whatever is wrong with a file that the program needs is said of the load.
abbrev pub refusal_of : List ℕ → LoadRefusal → Refusal
refusal_of file (NoFile name) = of_file file name (NoSuchFile name) (NoFile name)
refusal_of file (Elf name r) = of_file file name (NoObject name r) (Elf name r)
refusal_of file (TooLong name) = of_file file name (FileTooLong name) (TooLong name)
refusal_of file TooManyModules = Load TooManyModules
refusal_of file (Unresolved m name) = Load (Unresolved m name)
refusal_of file (NotCode m name) = Load (NotCode m name)
refusal_of file (DescriptorsFull n) = Load (DescriptorsFull n)
refusal_of file (NoRoom i) = Load (NoRoom i)
refusal_of file (BadAddress m site) = Load (BadAddress m site)
refusal_of file (NotBuilt name) = Load (NotBuilt name)

-- the file is loaded as a program over this plan
abbrev pub BindMeans : List ℕ → ℕ → ℕ → Files → Outcome → Type 0
BindMeans file text data' told o = ProgramMeans (plan_of file text data') file (refusal_of file) told o
