-- What a refusal to read stands for.
use Rattle.dpx_file.specs.declared.fault.DpxFault.{DpxFault}
use Rattle.dpx_file.specs.declared.fault.ReadError.{ReadError}
use Rattle.dpx_file.specs.declared.fault.ReadError.TheVariants.{Dpx, Memory}

-- Its fault is the one that the claim is made of. Of want of memory nothing is claimed.
abbrev pub read_refusal : (DpxFault → Type 0) → ReadError → Type 0
read_refusal claim (Dpx fault) = claim fault
read_refusal claim Memory = Unit {0}
