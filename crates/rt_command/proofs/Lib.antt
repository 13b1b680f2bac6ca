mod ArgumentLemmas
mod CommandLemmas
mod CommandRows
mod OptionLemmas
mod OptionNumbers
