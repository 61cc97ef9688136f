-- How a server ends early.

-- From old to new calls of the outside went on, and then the log failed; nothing was called behind that.
pub record BreaksOff {H : Type 0} (goes_on fails : H → H → Type 0) (old new : H) : Type 0 where
  pub before : H
  pub went_on : goes_on old before
  pub failed : fails before new
