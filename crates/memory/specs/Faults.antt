-- The numbers, lines and words of a memory's faults, by cases.
use Rattle.std.specs.Prelude.{ℕ, List, ◌++◌, codes, decimal}
use Rattle.memory.specs.declared.fault.Operation.{Operation}
use Rattle.memory.specs.declared.fault.Operation.TheVariants.{Write, Fence}
use Rattle.memory.specs.declared.fault.MemoryFault.{MemoryFault}
use Rattle.memory.specs.declared.fault.MemoryFault.TheVariants.{NoSuchLine, NoPower, Unreadable}

abbrev pub operation_name : Operation → List ℕ
operation_name (Write l) = codes "write"
operation_name Fence = codes "fence"

abbrev pub fault_number : MemoryFault → ℕ
fault_number (NoSuchLine l) = 1
fault_number (NoPower op) = 2
fault_number (Unreadable l) = 2

abbrev pub fault_name : MemoryFault → List ℕ
fault_name (NoSuchLine l) = codes "no such line"
fault_name (NoPower op) = codes "no power"
fault_name (Unreadable l) = codes "no power"

-- a fence has no line and tells 65535
abbrev pub fault_line : MemoryFault → ℕ
fault_line (NoSuchLine l) = l
fault_line (NoPower (Write l)) = l
fault_line (NoPower Fence) = 65535
fault_line (Unreadable l) = l

-- where it happened
abbrev pub fault_place : MemoryFault → List ℕ
fault_place (NoSuchLine l) = codes ": line " ++ decimal l
fault_place (NoPower (Write l)) = codes ": write of line " ++ decimal l
fault_place (NoPower Fence) = codes ": fence"
fault_place (Unreadable l) = codes ": read of line " ++ decimal l

-- what is printed of a fault
abbrev pub fault_text : MemoryFault → List ℕ
fault_text f = codes "M" ++ (decimal (fault_number f) ++ (codes " " ++ (fault_name f ++ fault_place f)))
