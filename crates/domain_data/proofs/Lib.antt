pub mod CanonicalForms
