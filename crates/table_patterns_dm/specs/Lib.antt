pub mod TablePatterns
