pub mod MadeLimits
pub mod OneAnswer
pub mod SameLimits
pub mod TableParts
