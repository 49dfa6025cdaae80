-- What a fault that hands a value back says: the value, and the reason (this project's own).
use Rattle.std.specs.Prelude.{◌≡◌, Option, Some, None}
use Rattle.be_message.specs.declared.value.Value.{Value}
use Rattle.be_message.specs.declared.fault.AddFault.{AddFault}
use Rattle.be_message.specs.declared.fault.AddFault.TheVariants as add_fault
use Rattle.be_message.specs.declared.fault.ReplaceFault.{ReplaceFault}
use Rattle.be_message.specs.declared.fault.ReplaceFault.TheVariants as replace_fault
use Rattle.be_message.specs.Fields.{Refusal, bad_name, bad_value, bad_type, too_many, not_found}
use Rattle.be_message.specs.Fields.{bad_index}

-- the value comes back with the reason; memory wants only where there is none
abbrev pub IsAddFault : AddFault → Value → Option Refusal → Type 0
IsAddFault (add_fault.BadName back) v reason = (back ≡ v) × (reason ≡ Some bad_name)
IsAddFault (add_fault.BadValue back) v reason = (back ≡ v) × (reason ≡ Some bad_value)
IsAddFault (add_fault.BadType back) v reason = (back ≡ v) × (reason ≡ Some bad_type)
IsAddFault (add_fault.TooMany back) v reason = (back ≡ v) × (reason ≡ Some too_many)
IsAddFault (add_fault.NoMemory back) v reason = (back ≡ v) × (reason ≡ None)

abbrev pub IsReplaceFault : ReplaceFault → Value → Option Refusal → Type 0
IsReplaceFault (replace_fault.NameNotFound back) v reason = (back ≡ v) × (reason ≡ Some not_found)
IsReplaceFault (replace_fault.BadType back) v reason = (back ≡ v) × (reason ≡ Some bad_type)
IsReplaceFault (replace_fault.BadIndex back) v reason = (back ≡ v) × (reason ≡ Some bad_index)
IsReplaceFault (replace_fault.BadValue back) v reason = (back ≡ v) × (reason ≡ Some bad_value)
