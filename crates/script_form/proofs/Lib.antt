pub mod FormNames
pub mod GrammarForms
pub mod GrammarRules
pub mod UserRules
