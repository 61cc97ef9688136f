-- Why a desk's folder can't be used, as text.
use Rattle.std.specs.Prelude.{ℕ, List, codes}
use Rattle.desk_outside.specs.declared.folder_fault.FolderFault.{FolderFault}
use Rattle.desk_outside.specs.declared.folder_fault.FolderFault.TheVariants.{NotPrivate, Link, OtherKind}
use Rattle.desk_outside.specs.declared.folder_fault.FolderFault.TheVariants.{NoParent, NotYours, Broken}

abbrev pub fault_text : FolderFault → List ℕ
fault_text NotPrivate = codes "others than you may look into it"
fault_text Link = codes "a link stands in its place"
fault_text OtherKind = codes "something else stands in its place"
fault_text NoParent = codes "the folder that it is to stand in isn't there"
fault_text NotYours = codes "you may not use it; it may be another user's"
fault_text Broken = codes "the system can't use it; see whether the disk is full"
